-- What a reader finds in a replay is among what is told.
-- c is a scenario, steps are the lines behind `schedule`, ms are moves, k is a claim.
use Rattle.std.proofs.Common.{ℕ, ◌≡◌, ◌<◌, Bool, true, false, List, [], ◌∷◌, ◌++◌, length, map, reverse, option_to_list, inl, inr, refl, sym, ◌∙◌, ap, subst, append_assoc}
use Rattle.std.proofs.lemmas.Bool.{false≢true}
use Rattle.std.specs.List.{All, Contains}
use Rattle.std.proofs.lemmas.List.{map-append, reverse-reverse}
use Rattle.std.proofs.lemmas.List.Elements.{All-contains, Contains-append_left, All-nil, All-cons, All-head, All-tail}
use Rattle.chorus_ui.specs.Layout.{IsLayout}
use Rattle.chorus_ui.specs.declared.layout.Layout.{Layout}
use Rattle.law_explore.specs.declared.moves.Move.{Move}
use Rattle.chorus_entry.specs.declared.entry.Entry.{Entry}
use Rattle.law_network.specs.Left.{journals}
use Rattle.law_network.specs.Network.{Event, NetState, schedule}
use Rattle.law_network.specs.Schedules.{may_be}
use Rattle.law_explore.specs.Races.{IsWhole, event_of, replaying, seat_0}
use Rattle.law_explore.specs.Replays.{events_of}
use Rattle.law_moments.specs.Fronts.{AreFronts}
use Rattle.law_moments.proofs.Fronts.{moments-are-fronts}
use Rattle.law_explore.specs.Search.{IsHistory}
use Rattle.law_replay.specs.Shown.{race_of, step_of, IsPlayed}
use Rattle.chorus_claims.specs.Pieces.{Claim, meets}
use Rattle.chorus_scene.specs.Limits.{Keeps}
use Rattle.chorus_scene.specs.Scene.{Scene}
use Rattle.chorus_scene.proofs.Kept.{kept}
use Rattle.chorus_scene.proofs.Law.{printed_again}
use Rattle.chorus_replay.specs.Ordered.{IsOrdered}
use Rattle.explore_report.specs.declared.findings.Finding.{Finding}
use Rattle.explore_report.specs.Findings.{found_of}
use Rattle.law_explore.specs.Explores.{Found, IsShown}
use Rattle.chorus_explore.specs.Checked.{IsAsked, Verdict, Fails, Holds, Judged, Open}
use Rattle.chorus_explore.specs.Explored.{IsExploration}
use Rattle.chorus_explore.specs.Shown.{IsReplayed}
use Rattle.chorus_net.specs.declared.closed.Closed.{Closed}
use Rattle.chorus_net.specs.Closing.{closed_journals}
use Rattle.chorus_explore.specs.Stages.{comes, facts_at, position}
use Rattle.chorus_explore.proofs.Explaining.{outcomes-are}
use Rattle.chorus_explore.proofs.Failing.{failures-are-replayed}
use Rattle.chorus_explore.proofs.Happening.{events, history-may, net-is}
use Rattle.chorus_explore.proofs.Racing.{base}
use Rattle.chorus_explore.proofs.Returning.{replays-are-whole}
use Rattle.chorus_explore.proofs.Whole.{shown-schedules-are-replayed}
use Rattle.law_outcomes.specs.Closed.{IsOfWhole, IsReadOf, acts_in}
use Rattle.law_outcomes.specs.Replays.{IsInFront, IsSeenMet, IsReadAs, IsSeen, IsSeenFailing, WholesAreAmongOutcomes, ReplaysAreHistories, ReplaysAreAmongOutcomes, OutcomesAreOfReplays, TextsAreAmongOutcomes, ChecksAreOfReplays, IsSeenOf, AllAreFound, texts_in}
use Rattle.law_outcomes.proofs.Reading.{closed-tells-outcome}

pub replays-are-histories : ReplaysAreHistories
replays-are-histories c steps closed shape replay =
    let w = replays-are-whole c steps replay.status closed shape replay.keeps replay.played replay.unworn in
    let read = closed-tells-outcome (record c { schedule = steps }) w.0 closed shape replay.keeps w.1.0.0 w.1.1.left in
    record { moves = w.0; whole = w.1.0; reads = record { lines = read.lines; facts = read.facts; acts = read.acts; moves = read.moves } }

-- Outcomes.

module _ (c : Scene) (most first : ℕ) (text : List ℕ) (told : IsExploration c most first text) where
  -- what a whole history comes to that was counted is told
  is-told : (ms : List Move) → IsWhole (race_of c) ms → AllAreFound told.explored (length ms) → Contains (texts_in told.explored) (comes c ms)
  is-told ms whole all =
      let fs = told.explored.findings.items.items in
      let hs = told.histories ++ told.drawn in
      All-contains (λ (h : List Move). Contains (texts_in told.explored) (comes c h)) hs ms
      (subst (λ texts. All (λ (h : List Move). Contains texts (comes c h)) hs) (outcomes-are (race_of c) (comes c) fs) told.some.found)
      (Contains-append_left told.histories told.drawn ms (by all))
    where
      by : AllAreFound told.explored (length ms) → Contains told.histories ms
      by (inl uncut) = (told.all uncut).every ms whole
      by (inr few) = told.bounded ms whole few

pub wholes-are-among-outcomes : WholesAreAmongOutcomes
wholes-are-among-outcomes c most first text closed told w all =
    subst (Contains (texts_in told.explored)) (sym w.reads.lines)
    (is-told c most first text told w.moves w.whole (subst (AllAreFound told.explored) w.reads.moves all))

pub replays-are-among-outcomes : ReplaysAreAmongOutcomes
replays-are-among-outcomes c most first text steps closed shape told replay all =
    wholes-are-among-outcomes c most first text closed told (replays-are-histories c steps closed shape replay) all

abbrev Shows : Scene → List (List Move) → Found (List ℕ) → Type 0
Shows c histories z = IsShown (race_of c) (comes c) z × Contains histories z.shows

pub outcomes-are-of-replays : OutcomesAreOfReplays
outcomes-are-of-replays c most first text shape keeps told = by told.explored.findings.items.items told.some.shown (shown-schedules-are-replayed c most first text shape keeps told)
  where
    by : (fs : List Finding) → All (Shows c (told.histories ++ told.drawn)) (map found_of fs) → All (IsReplayed c) fs → All (IsSeen c) fs
    by [] h g = All-nil (IsSeen c)
    by (f ∷ fs) h g =
        let one = (All-head (Shows c (told.histories ++ told.drawn)) (found_of f) (map found_of fs) h).0 in
        let at = All-head (IsReplayed c) f fs g in
        let ms = reverse f.moves.items in
        All-cons (IsSeen c) f fs
        (λ closed replay.
        let played = subst (λ (moves : List Move). IsPlayed (record c { schedule = map step_of moves }) replay.status closed) (sym (reverse-reverse f.moves.items)) replay.played in
        (closed-tells-outcome c ms closed shape keeps one.whole.0 (at.closes replay.status closed played replay.unworn).left).lines ∙ at.comes_to)
        (by fs (All-tail (Shows c (told.histories ++ told.drawn)) (found_of f) (map found_of fs) h) (All-tail (IsReplayed c) f fs g))

pub texts-are-among-outcomes : TextsAreAmongOutcomes
texts-are-among-outcomes l most first input other old new stuck status closed shape told replay same unworn all =
    let c = told.scene in
    let d = replay.runs.scene in
    let layout : c.layout ≡ l = (printed_again l told.given.bytes c told.given.given).0 in
    let keeps : Keeps d = kept l replay.runs.given.bytes d replay.runs.given.given in
    replays-are-among-outcomes c most first told.text d.schedule closed (subst IsLayout (sym layout) shape) told.explored
    (record {
      status = status;
      keeps = subst Keeps same keeps;
      played = subst (λ (x : Scene). IsPlayed x status closed) same
          (record {
            standing = replay.standing;
            follows = replay.follows;
            over = replay.over;
            ordered = subst (λ (k : Layout). IsOrdered k replay.standing.tasks status closed) (sym layout ∙ ap (λ (x : Scene). x.layout) (sym same)) replay.ordered;
          });
      unworn = unworn;
    })
    all

-- Claims.

behind : (c : Scene) (more os : List Move) → IsHistory (replaying (race_of c)) (more ++ os) → IsHistory (replaying (race_of c)) os
behind c [] os h = h
behind c (m ∷ more) os h = behind c more os h.1

-- where a claim is asked a history leads, and it is asked at ends, or at each moment
asked-history : (c : Scene) (k : Claim) (ms : List Move) (b : Bool) → IsAsked c (record k { throughout = b }) ms → IsHistory (replaying (race_of c)) ms
asked-history c k ms true h = h
asked-history c k ms false h = h.0

at-an-end : (c : Scene) (k : Claim) (ms : List Move) (b : Bool) → IsWhole (race_of c) ms → IsAsked c (record k { throughout = b }) ms
at-an-end c k ms true w = w.0
at-an-end c k ms false w = w

at-a-moment : (c : Scene) (k : Claim) (ms : List Move) (b : Bool) → b ≡ true → IsHistory (replaying (race_of c)) ms → IsAsked c (record k { throughout = b }) ms
at-a-moment c k ms true e h = h
at-a-moment c k ms false e h = absurd (false≢true e)

fronts-map : {X Y : Type 0} (f : X → Y) (xss yss : List (List X)) → AreFronts xss yss → AreFronts (map (λ (xs : List X). map f xs) xss) (map (λ (ys : List X). map f ys) yss)
fronts-map f [] [] h = tt
fronts-map f [] (ys ∷ yss) h = absurd h
fronts-map f (xs ∷ xss) [] h = absurd h
fronts-map f (xs ∷ xss) (ys ∷ yss) h = ((map f h.0.0, ap (map f) h.0.1 ∙ map-append f xs h.0.0), fronts-map f xss yss h.1)

-- the events behind those of a history
events-more : (c : Scene) (more os : List Move) → (later : List Event) × (events c (more ++ os) ≡ later ++ events c os)
events-more c [] os = ([], refl)
events-more c (m ∷ more) os =
    let rest = events-more c more os in
    let first = option_to_list (event_of (race_of c).net.layout seat_0 m (position c (more ++ os)).left) in
    (first ++ rest.0, append_assoc first (events_of (race_of c) (more ++ os)) (reverse (base c)) ∙ ap (λ es. first ++ es) rest.1 ∙ sym (append_assoc first rest.0 (events c os)))

module _ (c : Scene) (k : Claim) (shape : IsLayout c.layout) (keeps : Keeps c) where
  read-as : (ms : List Move) (b : Bool) → IsHistory (replaying (race_of c)) ms → meets k (facts_at c ms) ≡ b → IsReadAs c k b ms
  read-as ms b h m = λ closed left. ap (meets k) (closed-tells-outcome c ms closed shape keeps h left).facts ∙ m

  stands-in-front : (more os : List Move) (closed : Closed) → IsHistory (replaying (race_of c)) (more ++ os) → IsReadOf c (more ++ os) closed → IsInFront c os closed
  stands-in-front more os closed h reads =
      λ moment left.
      (subst (λ js. AreFronts js (acts_in (closed_journals closed))) (sym (ap acts_in left.journals))
      (subst (AreFronts (acts_in (journals (position c os).net))) (sym reads.acts)
      (fronts-map (λ (e : Entry). e.act) (journals (position c os).net) (journals (position c (more ++ os)).net) (grown more os h))))
    where
      grown : (more os : List Move) → IsHistory (replaying (race_of c)) (more ++ os) → AreFronts (journals (position c os).net) (journals (position c (more ++ os)).net)
      grown more os h =
          let later = events-more c more os in
          subst (λ (n : NetState). AreFronts (journals n) (journals (position c (more ++ os)).net)) (net-is c os)
          (subst (λ (n : NetState). AreFronts (journals (schedule c.layout (events c os))) (journals n)) (ap (schedule c.layout) (sym later.1) ∙ net-is c (more ++ os))
          (moments-are-fronts c.layout later.0 (events c os) shape (subst (λ es. may_be c.layout es ≡ true) later.1 (history-may c shape keeps (more ++ os) h))))

  pub met : (Asks : ℕ → Type 0) → ((ms : List Move) → IsAsked c k ms → Asks (length ms) → meets k (facts_at c ms) ≡ true) → (closed : Closed) → IsOfWhole c closed → IsSeenMet c k Asks closed
  met Asks all closed w = record {
    of_whole = w;
    at_end = λ may. ap (meets k) w.reads.facts ∙ all w.moves (at-an-end c k w.moves k.throughout w.whole) (subst Asks w.reads.moves may);
    on_the_way = λ each more os is may.
        (let h = behind c more os (subst (IsHistory (replaying (race_of c))) is w.whole.0) in
        (read-as os true h (all os (at-a-moment c k os k.throughout each h) may), subst (λ (ms : List Move). IsReadOf c ms closed → IsInFront c os closed) (sym is) (λ reads. stands-in-front more os closed (subst (IsHistory (replaying (race_of c))) is w.whole.0) reads) w.reads));
  }

  failing : (ms : List Move) → Judged c k (Fails ms) → IsSeenFailing c k ms
  failing ms judged =
      let h = asked-history c k ms k.throughout judged.0 in
      record {
        read = read-as ms false h judged.1;
        at_end = λ ends closed replay.
            (let shown = failures-are-replayed c k ms replay.status closed shape keeps judged.0 judged.1 replay.played replay.unworn in
            read-as ms false h judged.1 closed (shown.at_the_end ends).left);
        on_the_way = λ closed replay.
            (let shown = failures-are-replayed c k ms replay.status closed shape keeps judged.0 judged.1 replay.played replay.unworn in
            let on = shown.goes_on replay.keeps in
            let reads = closed-tells-outcome c (on.0 ++ ms) closed shape keeps on.1.0.0 on.1.1.left in
            (stands-in-front on.0 ms closed on.1.0.0 reads, (on.0, (on.1.0, reads))));
      }

  seen : (v : Verdict) → Judged c k v → IsSeenOf c k v
  seen Holds judged = λ steps closed replay. met (λ n. Unit {0}) (λ ms asked may. judged ms asked) closed (replays-are-histories c steps closed shape replay)
  seen (Open bound) judged = λ steps closed replay. met (λ n. n < bound) judged closed (replays-are-histories c steps closed shape replay)
  seen (Fails ms) judged = failing ms judged

pub checks-are-of-replays : ChecksAreOfReplays
checks-are-of-replays c claims most e shape keeps checks i k v claim verdict = seen c k shape keeps v (checks.judged i k v claim verdict)
