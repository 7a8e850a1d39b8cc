-- All that holds of each schedule, in one record; and that its holdings hold each message.
use Rattle.std.proofs.Common.{[], refl}
use Rattle.chorus_world.proofs.Moments.{always-in-order, always-once, always-one-member, always-by-choice, entries-on-site}
use Rattle.law_network.specs.Network.{schedule}
use Rattle.law_network.specs.Schedules.{OfSchedules}
use Rattle.law_network.specs.Left.{placed, packets_left, merged_past}
use Rattle.law_network.specs.Holdings.{holdings_in, holdings_left}
use Rattle.law_network.specs.EachMessage.{NetworksHoldEach, ClosedHoldEach}
use Rattle.law_network.specs.History.{history}
use Rattle.law_network.specs.Promises.{DeliversLawfully, SchedulesKeepPromises}
use Rattle.law_network.proofs.Holdings.EachMessage.{holdings-hold-each}
use Rattle.law_network.proofs.Promises.Promised.{stands-at, shape-at, legal-merge, runs-at, journals-at, performs-at, tables-at, closes-at, quiet-at, receives-at, fates-at}
use Rattle.law_network.proofs.Promises.Posts.{history-fits}
use Rattle.law_network.proofs.Promises.Lawful.{lawful-here}
use Rattle.law_network.proofs.Promises.Few.{carries-few}

pub delivers-lawfully : OfSchedules DeliversLawfully
delivers-lawfully l es shape may a b packet first =
    lawful-here (schedule l es) (history l es) (shape-at l es shape may) (stands-at l es shape may) (history-fits l shape es may) a b packet first

pub keeps-promises : SchedulesKeepPromises
keeps-promises l es shape may =
    let past = merged_past (schedule l es) in
    let legal = legal-merge l es shape may in
    record {
      run = runs-at l es shape may;
      journals = journals-at l es shape may;
      performed = performs-at l es shape may;
      lawful = delivers-lawfully l es shape may;
      stands = tables-at l es shape may;
      left = closes-at l es shape may;
      quiet = quiet-at l es shape may;
      receives = receives-at l es shape may;
      fates = fates-at l es shape may;
      sender_order = always-in-order l past legal;
      once = always-once l past legal;
      one_member = always-one-member l past legal;
      on_site = entries-on-site l past legal;
      choice_order = always-by-choice l past legal;
      few_packets = carries-few l es shape may;
    }

pub networks-hold-each : NetworksHoldEach
networks-hold-each l es shape may =
    let n = schedule l es in
    holdings-hold-each (merged_past n) (holdings_in n) (tables-at l es shape may) (fates-at l es shape may [] (merged_past n) refl)

pub closed-hold-each : ClosedHoldEach
closed-hold-each l es shape may =
    let n = schedule l es in
    holdings-hold-each (merged_past n) (holdings_left l (placed n) (packets_left n)) (closes-at l es shape may) (fates-at l es shape may [] (merged_past n) refl)
