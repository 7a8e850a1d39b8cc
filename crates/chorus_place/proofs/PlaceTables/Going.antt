-- One message after the other goes: what each step leaves to do.
use Rattle.std.proofs.Common.{◌≡◌, ℕ, max, ◌+◌, ◌==◌, Bool, true, false, not, cond, Option, Some, None, List, [], ◌∷◌, length, drop, slice_get, IfSome, IsNone, refl, sym, ◌∙◌, ap, subst, arith}
use Rattle.chorus_ui.specs.declared.ui.Ui.{Ui}
use Rattle.chorus_ui.specs.declared.layout.Layout.{Layout}
use Rattle.chorus_ui.specs.Layout.{has_site, has_place}
use Rattle.chorus_entry.specs.declared.answer.Answer.{Answer}
use Rattle.chorus_entry.specs.declared.answer.Answer.TheVariants as A
use Rattle.chorus_world.specs.declared.place.Location.{Location}
use Rattle.chorus_world.specs.Posts.{is_on_site}
use Rattle.chorus_calls.specs.Callers.{Seated}
use Rattle.chorus_hints.specs.Known.{kept, newest_of}
use Rattle.chorus_hints.specs.Known.{newest as known_newest}
use Rattle.place_unsettled.specs.declared.wait.Key.{Key}
use Rattle.place_unsettled.specs.declared.wait.Wait.{Wait}
use Rattle.place_unsettled.specs.Queues.{Queue, queue, changed, passed}
use Rattle.law_machine.specs.PlaceState.{Turn, newest, greatest_clock}
use Rattle.law_machine.specs.Deciding.{decide}
use Rattle.law_machine.specs.Trying.{settles_here, tries_at, verdict_here, tries, goes_on}
use Rattle.chorus_place.specs.PlaceTables.Tables.{Tables, state, turn}
use Rattle.chorus_place.specs.PlaceTables.Going.{GoesOn, Stops, settles, first_for, first_to, leaving_to, leaving, tries_leaving}
use Rattle.chorus_place.proofs.PlaceTables.Deciding.{located}
use Rattle.chorus_place.proofs.PlaceTables.Reports.{passes}

-- Lists.

pub head : (ws : List Wait) (w : Wait) → slice_get ws 0 ≡ Some w → ws ≡ w ∷ drop 1 ws
head [] w h = cc
head (x ∷ xs) w h = let e : x ≡ w = cc in ap (λ y. y ∷ xs) e

fewer : (ws : List Wait) (w : Wait) → slice_get ws 0 ≡ Some w → length (drop 1 ws) + 1 ≡ length ws
fewer ws w h = let e = ap (λ (xs : List Wait). length xs) (head ws w h) in omega (arith, e)

yes_case : {A : Type 0} (b : Bool) (x y : A) → b ≡ true → cond b x y ≡ x
yes_case b x y h = ap (λ c. cond c x y) h

no_case : {A : Type 0} (b : Bool) (x y : A) → b ≡ false → cond b x y ≡ y
no_case b x y h = ap (λ c. cond c x y) h

not_true : (b : Bool) → b ≡ true → not b ≡ false
not_true b h = ap not h

not_false : (b : Bool) → b ≡ false → not b ≡ true
not_false b h = ap not h

max-same : (n : ℕ) → max n n ≡ n
max-same n = omega arith

pub from_some : (o : Option Wait) (w : Wait) (P : Wait → Type 0) → o ≡ Some w → IfSome o P → P w
from_some o w P e h = subst (λ x. IfSome x P) e h

-- What is left to do.

-- the first message has a verdict here
step-here : (k : Key) (w : Wait) (ws : List Wait) (loc : Location) (a : Answer) (t : Turn) → newest t.place k.port ≡ loc → verdict_here k w loc t.place ≡ Some a
    → goes_on k (w ∷ ws) t ≡ goes_on k ws (settles_here k w loc.hop a t)
step-here k w ws loc a t e v =
    ap (λ x. tries k w x (goes_on k ws) (verdict_here k w x t.place) t) e ∙ ap (λ o. tries k w loc (goes_on k ws) o t) v

-- or it is tried at another place
step-away : (k : Key) (w : Wait) (ws : List Wait) (loc : Location) (t : Turn) → newest t.place k.port ≡ loc → verdict_here k w loc t.place ≡ None
    → goes_on k (w ∷ ws) t ≡ tries_at k w loc t
step-away k w ws loc t e v =
    ap (λ x. tries k w x (goes_on k ws) (verdict_here k w x t.place) t) e ∙ ap (λ o. tries k w loc (goes_on k ws) o t) v

goes : (k : Key) (t : Turn) (w : Wait) (loc : Location) (a : Answer) → slice_get (t.place.waiting k).waits 0 ≡ Some w
    → newest t.place k.port ≡ loc → verdict_here k w loc t.place ≡ Some a
    → leaving k (settles_here k w loc.hop a t).place ≡ leaving k t.place → GoesOn k t (settles_here k w loc.hop a t)
goes k t w loc a h e v leaves =
    record {
      same =
          ap (λ (x : Queue). goes_on k x.waits (settles_here k w loc.hop a t)) (passes k t.place.waiting)
          ∙ sym (step-here k w (drop 1 (t.place.waiting k).waits) loc a t e v)
          ∙ sym (ap (λ ws. goes_on k ws t) (head _ w h));
      fewer = ap (λ (x : Queue). length x.waits + 1) (passes k t.place.waiting) ∙ fewer _ w h;
      clock = max-same (greatest_clock t + 1);
      leaves = leaves;
      layout = refl;
    }

-- The port is of no site of the layout.

nobody-leaves : (l : Layout) (p : ℕ) (q : Ui) (to : ℕ) (ws : List Wait) → has_site l q.site ≡ false → leaving_to l p q to ws ≡ None
nobody-leaves l p q to ws h = yes_case (not (has_site l q.site)) _ _ (not_false _ h)

pub nowhere : (k : Key) (t : Turn) (w : Wait) → slice_get (t.place.waiting k).waits 0 ≡ Some w → has_site t.place.layout k.port.site ≡ false
    → GoesOn k t (settles k w (Some A.NoPort) 0 t)
nowhere k t w h site =
    goes k t w (newest t.place k.port) A.NoPort h refl (yes_case (not (has_site t.place.layout k.port.site)) _ _ (not_false _ site))
    (nobody-leaves t.place.layout t.place.number k.port (newest t.place k.port).to (changed k passed t.place.waiting k).waits site
    ∙ sym (nobody-leaves t.place.layout t.place.number k.port (newest t.place k.port).to (t.place.waiting k).waits site))

-- The port is on another site than the first message demands.

passed-over : (l : Layout) (p : ℕ) (q : Ui) (to : ℕ) (w : Wait) (ws : List Wait) → is_on_site l w.only to ≡ false
    → leaving_to l p q to ws ≡ leaving_to l p q to (w ∷ ws)
passed-over l p q to w ws h =
    ap (λ o. cond (not (has_site l q.site)) None (cond (to == p) None o)) (sym (no_case (is_on_site l w.only to) _ _ h))

pub elsewhere : (k : Key) (t : Turn) (w : Wait) (loc : Location) → slice_get (t.place.waiting k).waits 0 ≡ Some w → has_site t.place.layout k.port.site ≡ true
    → newest t.place k.port ≡ loc → is_on_site t.place.layout w.only loc.to ≡ false
    → GoesOn k t (settles k w (Some (A.Elsewhere loc.to loc.hop)) loc.hop t)
elsewhere k t w loc h site e off =
    goes k t w loc (A.Elsewhere loc.to loc.hop) h e
    (no_case (not (has_site t.place.layout k.port.site)) _ _ (not_true _ site)
    ∙ yes_case (not (is_on_site t.place.layout w.only loc.to)) _ _ (not_false _ off))
    (ap (λ (x : Queue). leaving_to t.place.layout t.place.number k.port (newest t.place k.port).to x.waits) (passes k t.place.waiting)
    ∙ passed-over t.place.layout t.place.number k.port (newest t.place k.port).to w (drop 1 (t.place.waiting k).waits)
    (ap (λ (x : Location). is_on_site t.place.layout w.only x.to) e ∙ off)
    ∙ sym (ap (λ ws. leaving_to t.place.layout t.place.number k.port (newest t.place k.port).to ws) (head _ w h)))

-- The port is located here.

stays-here : (l : Layout) (p : ℕ) (q : Ui) (to : ℕ) (ws : List Wait) → has_site l q.site ≡ true → (to == p) ≡ true → leaving_to l p q to ws ≡ None
stays-here l p q to ws site h = no_case (not (has_site l q.site)) _ _ (not_true _ site) ∙ yes_case (to == p) _ _ h

pub here : (k : Key) (t : Turn) (w : Wait) (loc : Location) → slice_get (t.place.waiting k).waits 0 ≡ Some w → has_site t.place.layout k.port.site ≡ true
    → newest t.place k.port ≡ loc → is_on_site t.place.layout w.only loc.to ≡ true → (loc.to == t.place.number) ≡ true
    → GoesOn k t (settles k w None loc.hop t)
here k t w loc h site e on is =
    goes k t w loc (decide w.message k.port w.only loc.hop t.place) h e
    (no_case (not (has_site t.place.layout k.port.site)) _ _ (not_true _ site)
    ∙ no_case (not (is_on_site t.place.layout w.only loc.to)) _ _ (not_true _ on)
    ∙ yes_case (loc.to == t.place.number) _ _ is)
    (stays-here t.place.layout t.place.number k.port (newest t.place k.port).to (changed k passed t.place.waiting k).waits site
    (ap (λ (x : Location). x.to == t.place.number) e ∙ is)
    ∙ sym (stays-here t.place.layout t.place.number k.port (newest t.place k.port).to (t.place.waiting k).waits site
    (ap (λ (x : Location). x.to == t.place.number) e ∙ is)))

-- Nothing waits, or the first message is tried at another place.

pub nothing : (k : Key) (t : Turn) → slice_get (t.place.waiting k).waits 0 ≡ None → Stops k t
nothing k t h = by (t.place.waiting k).waits refl h
  where
    none : leaving_to t.place.layout t.place.number k.port (newest t.place k.port).to [] ≡ None
    none = both (not (has_site t.place.layout k.port.site)) ((newest t.place k.port).to == t.place.number)
      where
        both : (a b : Bool) → cond a None (cond b None (first_to t.place.layout (newest t.place k.port).to [])) ≡ None
        both true b = refl
        both false true = refl
        both false false = refl

    by : (ws : List Wait) → (t.place.waiting k).waits ≡ ws → slice_get ws 0 ≡ None → Stops k t
    by [] e g =
        let leaves : leaving k t.place ≡ None = ap (λ xs. leaving_to t.place.layout t.place.number k.port (newest t.place k.port).to xs) e ∙ none in
        record {
          first = h ∙ sym leaves;
          rest = ap (λ xs. goes_on k xs t) e ∙ sym (ap (λ o. tries_leaving k o t) leaves);
        }
    by (w ∷ ws) e g = cc

pub away : (k : Key) (t : Turn) (w : Wait) (loc : Location) → slice_get (t.place.waiting k).waits 0 ≡ Some w → has_site t.place.layout k.port.site ≡ true
    → newest t.place k.port ≡ loc → is_on_site t.place.layout w.only loc.to ≡ true → (loc.to == t.place.number) ≡ false → Stops k t
away k t w loc h site e on off =
    record {
      first = h ∙ sym leaves;
      rest = ap (λ ws. goes_on k ws t) (head _ w h)
          ∙ step-away k w (drop 1 (t.place.waiting k).waits) loc t e puts
          ∙ sym (ap (λ x. tries_at k w x t) e)
          ∙ sym (ap (λ o. tries_leaving k o t) leaves);
    }
  where
    puts : verdict_here k w loc t.place ≡ None
    puts =
        no_case (not (has_site t.place.layout k.port.site)) _ _ (not_true _ site)
        ∙ no_case (not (is_on_site t.place.layout w.only loc.to)) _ _ (not_true _ on)
        ∙ no_case (loc.to == t.place.number) _ _ off

    leaves : leaving k t.place ≡ Some w
    leaves =
        ap (λ ws. leaving_to t.place.layout t.place.number k.port (newest t.place k.port).to ws) (head _ w h)
        ∙ no_case (not (has_site t.place.layout k.port.site)) _ _ (not_true _ site)
        ∙ no_case ((newest t.place k.port).to == t.place.number) _ _ (ap (λ (x : Location). x.to == t.place.number) e ∙ off)
        ∙ yes_case (is_on_site t.place.layout w.only (newest t.place k.port).to) _ _ (ap (λ (x : Location). is_on_site t.place.layout w.only x.to) e ∙ on)

-- The same, as the code sees them: i are the tables as they were opened.

pub seen-first : (k : Key) (i v : Tables) (w : Option Wait) → i ≡ v → slice_get (queue i.waits k).waits 0 ≡ w → first_for k v ≡ w
seen-first k i v w e h = ap (first_for k) (sym e) ∙ h

pub seen-site : (k : Key) (i v : Tables) (b : Bool) → i ≡ v → b ≡ has_site i.layout k.port.site → has_site v.layout k.port.site ≡ b
seen-site k i v b e h = ap (λ (p : Tables). has_site p.layout k.port.site) (sym e) ∙ sym h

-- what the place located
pub placed : (k : Key) (i v : Tables) (to : ℕ × ℕ) (b : Bool) → i ≡ v → i.known.layout ≡ i.layout → b ≡ has_site i.layout k.port.site → b ≡ true
    → to ≡ known_newest i.known k.port → newest (state v) k.port ≡ record { to = to.0; hop = to.1 }
placed k i v to b e l s t h =
    ap (λ (p : Tables). newest (state p) k.port) (sym e)
    ∙ located i.layout k.port (kept i.known k.port) to (sym s ∙ t) (h ∙ ap (λ m. newest_of m k.port (kept i.known k.port)) l)

pub on-site : (i v : Tables) (only : Option ℕ) (to : ℕ) (d b : Bool) → i ≡ v → d ≡ is_on_site i.layout only to → d ≡ b → is_on_site v.layout only to ≡ b
on-site i v only to d b e o f = ap (λ (p : Tables). is_on_site p.layout only to) (sym e) ∙ sym o ∙ f

pub nowhere-seen : (k : Key) (v : Tables) (c : Seated) (u : Turn) (w : Wait) → first_for k v ≡ Some w → has_site v.layout k.port.site ≡ false
    → IfSome (first_for k v) (λ x. u ≡ settles k x (Some A.NoPort) 0 (turn v c)) → GoesOn k (turn v c) u
nowhere-seen k v c u w h s g =
    subst (λ x. GoesOn k (turn v c) x) (sym (from_some _ w _ h g)) (nowhere k (turn v c) w h s)

pub elsewhere-seen : (k : Key) (v : Tables) (c : Seated) (u : Turn) (w : Wait) (loc : Location) → first_for k v ≡ Some w → has_site v.layout k.port.site ≡ true
    → newest (state v) k.port ≡ loc → is_on_site v.layout w.only loc.to ≡ false
    → IfSome (first_for k v) (λ x. u ≡ settles k x (Some (A.Elsewhere loc.to loc.hop)) loc.hop (turn v c)) → GoesOn k (turn v c) u
elsewhere-seen k v c u w loc h s e off g =
    subst (λ x. GoesOn k (turn v c) x) (sym (from_some _ w _ h g)) (elsewhere k (turn v c) w loc h s e off)

pub here-seen : (k : Key) (v : Tables) (c : Seated) (u : Turn) (w : Wait) (loc : Location) → first_for k v ≡ Some w → has_site v.layout k.port.site ≡ true
    → newest (state v) k.port ≡ loc → is_on_site v.layout w.only loc.to ≡ true → (loc.to == v.number) ≡ true
    → IfSome (first_for k v) (λ x. u ≡ settles k x None loc.hop (turn v c)) → GoesOn k (turn v c) u
here-seen k v c u w loc h s e on is g =
    subst (λ x. GoesOn k (turn v c) x) (sym (from_some _ w _ h g)) (here k (turn v c) w loc h s e on is)

pub eq-yes : (a b c : ℕ) → a ≡ b → b ≡ c → (a == c) ≡ true
eq-yes a b c e f = grind (arith, e, f)

pub eq-no : (a b c : ℕ) → (a ≡ b → ⊥) → b ≡ c → (a == c) ≡ false
eq-no a b c n f = grind (arith, n, f)

-- a location that was learned, or the place where the port was made
pub located-in_layout : (l : Layout) (o : Option (ℕ × ℕ)) (q : Ui) (to : ℕ × ℕ) (m : Layout) → ((n h : ℕ) → o ≡ Some (n, h) → has_place l n ≡ true)
    → m ≡ l → to ≡ newest_of m q o → (IsNone o → has_place m to.0 ≡ true) → has_place l to.0 ≡ true
located-in_layout l None q to m f e h made = ap (λ x. has_place x to.0) (sym e) ∙ made refl
located-in_layout l (Some pair) q to m f e h made = ap (λ (x : ℕ × ℕ). has_place l x.0) h ∙ f pair.0 pair.1 refl
