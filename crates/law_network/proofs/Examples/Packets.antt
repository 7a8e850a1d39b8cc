-- Which packets a place works off: those that a schedule brings, and no others. Place 3 has a message to 1.p.1 under way to
-- place 1 and one that waits behind it; place 2 asked for two posts, and heard of the choice of one of them in `heard`.
use Rattle.std.proofs.Common.{◌≡◌, [], ◌∷◌, refl}
use Rattle.chorus_entry.specs.declared.tag.Tag.{Tag}
use Rattle.chorus_entry.specs.declared.dest.Dest.{Dest}
use Rattle.chorus_entry.specs.declared.answer.Answer.TheVariants as A
use Rattle.chorus_entry.specs.declared.packet.Cargo.{Cargo}
use Rattle.law_network.specs.Network.{NetState, place, Deliver, after}
use Rattle.std.specs.Prelude.{ℕ, Bool, true, false, Some, None}
use Rattle.law_machine.specs.Lawful.{is_lawful}
use Rattle.law_network.proofs.Examples.Standing.{middle}
use Rattle.law_network.proofs.Examples.Names.{actor, port, group, msg, mess, rec}

abbrev brought : ℕ → ℕ → Cargo → Bool
brought place_number from cargo = is_lawful from (record { clock = 15; from = from; cargo = cargo }) (place place_number middle)

abbrev heard : NetState
heard = after (Deliver 0 1 2 ∷ []) middle

pub verdict-of-the-first : brought 3 1 (Cargo.Verdict (msg 3 1 0) (port 1 1) None (A.Accepted 2)) ≡ true
verdict-of-the-first = refl

pub verdict-of-the-next : brought 3 1 (Cargo.Verdict (msg 3 2 0) (port 1 1) None (A.Accepted 2)) ≡ false
verdict-of-the-next = refl

pub verdict-from-another-place : brought 3 2 (Cargo.Verdict (msg 3 1 0) (port 1 1) None (A.Accepted 2)) ≡ false
verdict-from-another-place = refl

pub verdict-by-another-route : brought 3 1 (Cargo.Verdict (msg 3 1 0) (port 1 1) (Some (group 1 1)) (A.Accepted 2)) ≡ false
verdict-by-another-route = refl

pub verdict-for-another-port : brought 3 1 (Cargo.Verdict (msg 3 1 0) (port 3 1) None (A.Accepted 2)) ≡ false
verdict-for-another-port = refl

pub verdict-names-a-place : brought 3 1 (Cargo.Verdict (msg 3 1 0) (port 1 1) None (A.Stale 2 1)) ≡ true
verdict-names-a-place = refl

pub verdict-names-no-place : brought 3 1 (Cargo.Verdict (msg 3 1 0) (port 1 1) None (A.Stale 4 1)) ≡ false
verdict-names-no-place = refl

pub verdict-by-no-hop : brought 3 1 (Cargo.Verdict (msg 3 1 0) (port 1 1) None (A.Elsewhere 2 0)) ≡ false
verdict-by-no-hop = refl

pub verdict-by-a-later-hop : brought 3 1 (Cargo.Verdict (msg 3 1 0) (port 1 1) None (A.Stale 2 16)) ≡ false
verdict-by-a-later-hop = refl

pub verdict-tells-no-choice : brought 3 1 (Cargo.Verdict (msg 3 1 0) (port 1 1) None A.NoMember) ≡ false
verdict-tells-no-choice = refl

pub verdict-from-another-link : is_lawful 1 (record { clock = 15; from = 2; cargo = (Cargo.Verdict (msg 3 1 0) (port 1 1) None (A.Accepted 2)) }) (place 3 middle) ≡ false
verdict-from-another-link = refl

pub verdict-from-itself : brought 3 3 (Cargo.Verdict (msg 3 1 0) (port 1 1) None (A.Accepted 2)) ≡ false
verdict-from-itself = refl

pub report-of-the-choice : brought 2 1 (Cargo.Report (msg 1 2 0) (A.Chosen 2)) ≡ true
report-of-the-choice = refl

pub report-of-a-copy-before : brought 2 1 (Cargo.Report (msg 1 2 7) (A.Full 4)) ≡ true
report-of-a-copy-before = refl

pub report-of-a-direct-post : brought 2 1 (Cargo.Report (msg 1 1 0) (A.Accepted 0)) ≡ false
report-of-a-direct-post = refl

pub report-of-no-post : brought 2 1 (Cargo.Report (msg 1 4 0) (A.Chosen 2)) ≡ false
report-of-no-post = refl

pub report-to-another-place : brought 1 2 (Cargo.Report (msg 1 2 0) (A.Chosen 2)) ≡ false
report-to-another-place = refl

pub report-of-stale : brought 2 1 (Cargo.Report (msg 1 2 1) (A.Stale 1 1)) ≡ false
report-of-stale = refl

pub report-again : is_lawful 1 (record { clock = 15; from = 1; cargo = (Cargo.Report (msg 1 2 0) (A.Chosen 2)) }) (place 2 heard) ≡ false
report-again = refl

pub report-of-its-copy-then : is_lawful 1 (record { clock = 15; from = 1; cargo = (Cargo.Report (msg 1 2 1) (A.Accepted 0)) }) (place 2 heard) ≡ true
report-of-its-copy-then = refl

pub ask-of-the-groups-place : brought 1 2 (Cargo.Ask (mess (msg 1 9 0) Tag.Plain []) (Dest.One (group 1 1))) ≡ true
ask-of-the-groups-place = refl

pub ask-of-another-place : brought 3 2 (Cargo.Ask (mess (msg 1 3 0) Tag.Plain []) (Dest.One (group 1 1))) ≡ false
ask-of-another-place = refl

pub ask-of-no-site : brought 1 2 (Cargo.Ask (mess (msg 1 3 0) Tag.Plain []) (Dest.One (group 4 1))) ≡ false
ask-of-no-site = refl

pub try-for-a-port : brought 2 1 (Cargo.Try (mess (msg 0 9 0) Tag.Plain []) (port 3 1) None None 0) ≡ true
try-for-a-port = refl

pub try-for-no-site : brought 1 2 (Cargo.Try (mess (msg 1 9 0) Tag.Plain []) (port 4 1) None None 0) ≡ false
try-for-no-site = refl

pub try-by-a-later-hop : brought 2 1 (Cargo.Try (mess (msg 0 9 0) Tag.Plain []) (port 3 1) None None 16) ≡ false
try-by-a-later-hop = refl

pub port-that-moves-here : brought 3 1 (Cargo.Transfer (rec (port 1 1) (actor 3 2) 4 1 0 [] [])) ≡ true
port-that-moves-here = refl

pub port-that-is-here : brought 3 1 (Cargo.Transfer (rec (port 3 1) (actor 3 1) 4 2 0 [] [])) ≡ false
port-that-is-here = refl

pub port-that-was-not-made : brought 3 1 (Cargo.Transfer (rec (port 3 2) (actor 3 1) 4 2 0 [] [])) ≡ false
port-that-was-not-made = refl

pub port-that-no-layout-makes : brought 3 1 (Cargo.Transfer (rec (port 1 33) (actor 3 1) 4 1 0 [] [])) ≡ false
port-that-no-layout-makes = refl

pub port-for-another-site : brought 3 1 (Cargo.Transfer (rec (port 1 1) (actor 2 1) 4 1 0 [] [])) ≡ false
port-for-another-site = refl

pub port-for-no-actor : brought 3 1 (Cargo.Transfer (rec (port 1 1) (actor 3 9) 4 1 0 [] [])) ≡ false
port-for-no-actor = refl

pub port-that-did-not-move : brought 3 1 (Cargo.Transfer (rec (port 1 1) (actor 3 2) 4 0 0 [] [])) ≡ false
port-that-did-not-move = refl

pub port-with-positions-to-the-clock : brought 3 1 (Cargo.Transfer (rec (port 1 1) (actor 3 2) 4 1 14 ((mess (msg 0 1 0) Tag.Plain []) ∷ []) [])) ≡ true
port-with-positions-to-the-clock = refl

pub port-with-positions-above-the-clock : brought 3 1 (Cargo.Transfer (rec (port 1 1) (actor 3 2) 4 1 15 ((mess (msg 0 1 0) Tag.Plain []) ∷ []) [])) ≡ false
port-with-positions-above-the-clock = refl

pub port-with-too-many-messages : brought 3 1 (Cargo.Transfer (rec (port 1 1) (actor 3 2) 1 1 0 ((mess (msg 0 1 0) Tag.Plain []) ∷ (mess (msg 0 2 0) Tag.Plain []) ∷ []) [])) ≡ false
port-with-too-many-messages = refl
