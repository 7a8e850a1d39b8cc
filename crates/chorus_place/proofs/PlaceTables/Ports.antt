-- What a place keeps stays kept with the entries of ports.
use Rattle.std.proofs.Common.{◌≡◌, ℕ, ◌+◌, ◌-◌, ◌*◌, ◌/◌, ◌%◌, ◌<◌, ◌≤◌, Bool, true, false, ◌||◌, ◌&&◌, cond, nat_le, Option, Some, None, IsNone, IsSome, List, [], ◌∷◌, ◌++◌, length, refl, sym, ◌∙◌, ap, subst, add-mul, one-mul, mul_comm, arith, All, append-nil, mul-zero, zero, suc}
use Rattle.std.proofs.lemmas.Bool.{false≢true, and_parts}
use Rattle.law_machine.specs.declared.outgoing.Outgoing.{Outgoing}
use Rattle.std.proofs.lemmas.Nat.{mod-mul-add, mod_below, div-add-mod', mul-add-lt}
use Rattle.std.proofs.lemmas.List.Elements.{All-same, All-nil, All-head}
use Rattle.chorus_ui.specs.declared.ui.Ui.{Ui}
use Rattle.chorus_ui.specs.declared.layout.Layout.{Layout}
use Rattle.chorus_ui.specs.declared.kind.Kind.TheVariants as kinds
use Rattle.chorus_ui.specs.Layout.{has_place, has_site, has_actor, can_make_port, creation_place}
use Rattle.chorus_ui.specs.Kind.{same_kind}
use Rattle.chorus_ui.specs.Name.{same_ui}
use Rattle.chorus_ui.proofs.Names.{from_same_kind, from_same_ui, same_ui-self}
use Rattle.chorus_entry.specs.declared.entry.Entry.{Entry}
use Rattle.chorus_entry.specs.declared.act.Act.{Act}
use Rattle.chorus_entry.specs.declared.act.Act.TheVariants as acts
use Rattle.chorus_entry.specs.declared.message.Message.{Message}
use Rattle.chorus_entry.specs.declared.record.PortRecord.{PortRecord}
use Rattle.chorus_entry.specs.declared.tag.Tag.{Tag}
use Rattle.chorus_entry.specs.declared.tag.Tag.TheVariants as tags
use Rattle.chorus_entry.specs.Kinds.{has_kinds_in_tag}
use Rattle.chorus_entry.specs.Ranges.{has_range_of_id, has_range_of_tag}
use Rattle.chorus_entry.specs.PortRecord.{new_record}
use Rattle.chorus_place.specs.PlaceTables.Ports.{HasNumber, IsSoundTaken}
use Rattle.chorus_world.specs.Places.{ports_after, ports_made, is_made_here, makes}
use Rattle.chorus_world.specs.Steps.{next_number, is_full_of_ports}
use Rattle.chorus_world.specs.Groups.{members, members_after}
use Rattle.chorus_hints.specs.Known.{Known, kept, learned}
use Rattle.chorus_ports.specs.Table.{find, replace, without, are_distinct}
use Rattle.chorus_ports.specs.declared.taking.Taken.TheVariants as T
use Rattle.chorus_ports.specs.Taking.{taken, first_at}
use Rattle.place_unsettled.specs.declared.wait.Key.{Key}
use Rattle.place_unsettled.specs.Queues.{Row}
use Rattle.chorus_place.specs.PlaceTables.Tables.{IsSound, MayHold, AreHeld, AreNumbered, IsPort, AreMembers, IsKept}
use Rattle.chorus_place.proofs.PlaceTables.Kept.{Said, Raises, held-replace, held-last, held-without, located-learned}

-- other records, or other locations
pub kept-ports : (l : Layout) (p : ℕ) (past : List Entry) (ports now : List PortRecord) (known : Known) (rows : List (Key × Row)) (puts : List Outgoing)
    → IsKept l p past ports known rows puts → AreHeld l p past now → IsKept l p past now known rows puts
kept-ports l p past ports now known rows puts k held =
    record {
      place = k.place;
      held = held;
      layout = k.layout;
      located = k.located;
      waiting = k.waiting;
      numbered = k.numbered;
      grouped = k.grouped;
      sent = k.sent;
    }

pub kept-learned : (l : Layout) (p : ℕ) (past : List Entry) (ports : List PortRecord) (known more : Known) (rows : List (Key × Row)) (puts : List Outgoing) (q : Ui) (to hop : ℕ)
    → IsKept l p past ports known rows puts → more.layout ≡ known.layout → ((u : Ui) → kept more u ≡ learned q to hop (kept known) u) → has_place l to ≡ true
    → IsKept l p past ports more rows puts
kept-learned l p past ports known more rows puts q to hop k layout e place =
    record {
      place = k.place;
      held = k.held;
      layout = layout ∙ k.layout;
      located = located-learned l known more q to hop k.located e place;
      waiting = k.waiting;
      numbered = k.numbered;
      grouped = k.grouped;
      sent = k.sent;
    }

-- The records after a step.

pub held-changed : (l : Layout) (p : ℕ) (past more : List Entry) (a : Act) (ports now : List PortRecord) (q : Ui) (f : PortRecord → PortRecord)
    → AreHeld l p past ports → Said past more a → Raises f → now ≡ replace q f ports → AreHeld l p more now
held-changed l p past more a ports now q f k s raises e = subst (AreHeld l p more) (sym e) (held-replace l p past more a ports q f k s raises)

pub held-left : (l : Layout) (p : ℕ) (past more : List Entry) (a : Act) (ports now : List PortRecord) (q : Ui)
    → AreHeld l p past ports → Said past more a → are_distinct ports ≡ true → now ≡ without q ports → AreHeld l p more now
held-left l p past more a ports now q k s distinct e = subst (AreHeld l p more) (sym e) (held-without l p past more a ports q k s distinct)

pub absent : (o : Option PortRecord) → IsNone o → o ≡ None
absent None h = refl
absent (Some r) h = absurd (false≢true (sym h))

pub held-came : (l : Layout) (p : ℕ) (past more : List Entry) (a : Act) (ports now : List PortRecord) (r : PortRecord)
    → AreHeld l p past ports → Said past more a → MayHold l p more r.ui r → IsNone (find r.ui ports) → now ≡ ports ++ r ∷ [] → AreHeld l p more now
held-came l p past more a ports now r k s may none e =
    subst (AreHeld l p more) (sym e) (held-last l p past more a ports r k s may (absent (find r.ui ports) none))

-- Acts that change no group, or make no port.

pub grouped-same : (past more : List Entry) (a : Act) → AreMembers past → Said past more a → ((g : Ui) (qs : List Ui) → members_after g a qs ≡ qs) → AreMembers more
grouped-same past more a k s same g =
    All-same IsPort (members g more) (members g past)
    (ap (members g) s.is ∙ ap (λ b. members_after g b (members g past)) s.act ∙ same g (members g past))
    (k g)

pub numbered-same : (l : Layout) (p : ℕ) (past more : List Entry) (a : Act) → AreNumbered l p past → Said past more a → ((n : ℕ) → ports_after a n ≡ n)
    → ((q : Ui) → makes q a ≡ false) → AreNumbered l p more
numbered-same l p past more a k s none not_made q h =
    subst (λ n. q.number < n) (sym (ap (λ n. n * l.turns + (p - 1) % l.turns + 1) count)) (k q (sym made ∙ h))
  where
    count : ports_made more ≡ ports_made past
    count = ap ports_made s.is ∙ ap (λ b. ports_after b (ports_made past)) s.act ∙ none (ports_made past)

    made : is_made_here q more ≡ is_made_here q past
    made = ap (is_made_here q) s.is ∙ ap (λ b. b || is_made_here q past) (ap (makes q) s.act ∙ not_made q)

-- A port is made.

-- the next number is above the one that was given
next-above : (m n t x : ℕ) → n ≡ m + 1 → 1 ≤ t → m * t + x + 1 < n * t + x + 1
next-above m n t x e one =
    let step : n * t ≡ m * t + t = ap (λ k. k * t) e ∙ add-mul m 1 t ∙ ap (λ k. m * t + k) (one-mul t) in
    omega (arith, step, one)

pub numbered-made : (l : Layout) (p : ℕ) (past more : List Entry) (q b : Ui) (n : ℕ) → AreNumbered l p past → Said past more (acts.Make q b n) → 1 ≤ l.turns
    → q.number ≡ next_number l p past → AreNumbered l p more
numbered-made l p past more q b n k s turns name u h = by (same_ui q u) refl (sym made ∙ h)
  where
    count : ports_made more ≡ ports_made past + 1
    count = ap ports_made s.is ∙ ap (λ x. ports_after x (ports_made past)) s.act

    made : is_made_here u more ≡ same_ui q u || is_made_here u past
    made = ap (is_made_here u) s.is ∙ ap (λ x. makes u x || is_made_here u past) s.act

    above : next_number l p past < next_number l p more
    above = next-above (ports_made past) (ports_made more) l.turns ((p - 1) % l.turns) count turns

    by : (t : Bool) → same_ui q u ≡ t → t || is_made_here u past ≡ true → u.number < next_number l p more
    by true e g = let same = ap (λ v. v.number) (from_same_ui q u e) in let a = above in omega (arith, same, name, a)
    by false e g = let less = k u g in let a = above in omega (arith, less, a)

pub made-here : (past more : List Entry) (q b : Ui) (n : ℕ) → Said past more (acts.Make q b n) → is_made_here q more ≡ true
made-here past more q b n s =
    ap (is_made_here q) s.is ∙ ap (λ x. makes q x || is_made_here q past) s.act ∙ ap (λ t. t || is_made_here q past) (same_ui-self q)

-- the next port is one of this place
pub creation-next : (l : Layout) (p : ℕ) (past : List Entry) (a q : Ui) → 1 ≤ l.turns → creation_place l a ≡ p → q.site ≡ a.site → q.number ≡ next_number l p past
    → creation_place l q ≡ p
creation-next l p past a q turns home site name =
    ap (λ n. (n - 1) * l.turns + 1 + (q.number - 1) % l.turns) site
    ∙ ap (λ n. (a.site - 1) * l.turns + 1 + n) (ap (λ n. n % l.turns) number ∙ mod-mul-add (ports_made past) l.turns ((p - 1) % l.turns) (mod_below (p - 1) l.turns turns) ∙ same)
    ∙ home
  where
    number : q.number - 1 ≡ ports_made past * l.turns + (p - 1) % l.turns
    number = omega (arith, name)

    y : ℕ
    y = (a.number - 1) % l.turns

    before : p - 1 ≡ (a.site - 1) * l.turns + y
    before = omega (arith, home)

    same : (p - 1) % l.turns ≡ y
    same = ap (λ n. n % l.turns) before ∙ mod-mul-add (a.site - 1) l.turns y (mod_below (a.number - 1) l.turns turns)

pub absent-next : (l : Layout) (p : ℕ) (past : List Entry) (ports : List PortRecord) (q : Ui) → AreHeld l p past ports → AreNumbered l p past → creation_place l q ≡ p
    → q.number ≡ next_number l p past → IsNone (find q ports)
absent-next l p past ports q held numbered home name = by (find q ports) (held q)
  where
    by : (o : Option PortRecord) → ((r : PortRecord) → o ≡ Some r → MayHold l p past q r) → IsNone o
    by None h = refl
    by (Some r) h = let less = numbered q ((h r refl).own home) in absurd (omega (arith, less, name))

-- and one that the layout can make
pub can-make-next : (l : Layout) (p : ℕ) (past : List Entry) (a q : Ui) → 1 ≤ l.turns → has_actor l a ≡ true → q.site ≡ a.site → q.number ≡ next_number l p past
    → is_full_of_ports l past ≡ false → can_make_port l q ≡ true
can-make-next l p past a q turns actor site name few =
    let more = mul-add-lt (ports_made past) l.turns ((p - 1) % l.turns) (32 / l.turns) (grind (arith, few)) (mod_below (p - 1) l.turns turns) in
    let all = div-add-mod' 32 l.turns in
    let comm = mul_comm l.turns (32 / l.turns) in
    let low : nat_le 1 q.number ≡ true = grind (arith, name) in
    let within : q.number ≤ 32 = omega (arith, more, all, comm, name) in
    let high : nat_le q.number 32 ≡ true = grind (arith, within) in
    let there : has_site l q.site ≡ true = ap (has_site l) site ∙ (and_parts (has_site l a.site) (nat_le 1 a.number) (and_parts (has_site l a.site && nat_le 1 a.number) (nat_le a.number 8) actor).0).0 in
    λ i. there i && low i && high i

pub kept-made : (l : Layout) (p : ℕ) (past more : List Entry) (ports now : List PortRecord) (known : Known) (rows : List (Key × Row)) (puts : List Outgoing) (q a : Ui) (n : ℕ)
    → IsKept l p past ports known rows puts → Said past more (acts.Make q a n) → 1 ≤ l.turns → has_actor l a ≡ true → creation_place l a ≡ p
    → is_full_of_ports l past ≡ false → q ≡ record { site = a.site; kind = kinds.Port; number = next_number l p past } → now ≡ ports ++ new_record q a n ∷ []
    → IsKept l p more now known rows puts
kept-made l p past more ports now known rows puts q a n k s turns actor home few is e =
    let site = ap (λ u. u.site) is in
    let name = ap (λ u. u.number) is in
    let made = made-here past more q a n s in
    record {
      place = k.place;
      held = held-came l p past more (acts.Make q a n) ports now (new_record q a n) k.held s (record {
        kind = ap (λ u. u.kind) is;
        can_make = can-make-next l p past a q turns actor site name few;
        position = omega arith;
        hop = omega arith;
        own = λ c. made;
        pending = All-nil IsSound;
      }) (absent-next l p past ports q k.held k.numbered (creation-next l p past a q turns home site name) name) e;
      layout = k.layout;
      located = k.located;
      waiting = k.waiting;
      numbered = numbered-made l p past more q a n k.numbered s turns name;
      grouped = grouped-same past more (acts.Make q a n) k.grouped s (λ g qs. refl);
      sent = k.sent;
    }

-- A port is deleted.
pub kept-deleted : (l : Layout) (p : ℕ) (past more : List Entry) (ports now : List PortRecord) (known : Known) (rows : List (Key × Row)) (puts : List Outgoing) (q : Ui) (act : Act)
    → IsKept l p past ports known rows puts → Said past more act → ((n : ℕ) → ports_after act n ≡ n) → ((u : Ui) → makes u act ≡ false)
    → ((g : Ui) (qs : List Ui) → members_after g act qs ≡ qs) → are_distinct ports ≡ true → now ≡ without q ports → IsKept l p more now known rows puts
kept-deleted l p past more ports now known rows puts q act k s none not_made same distinct e =
    record {
      place = k.place;
      held = held-left l p past more act ports now q k.held s distinct e;
      layout = k.layout;
      located = k.located;
      waiting = k.waiting;
      numbered = numbered-same l p past more act k.numbered s none not_made;
      grouped = grouped-same past more act k.grouped s same;
      sent = k.sent;
    }

-- a port that is held may be held
pub may-hold : (l : Layout) (p : ℕ) (past : List Entry) (ports : List PortRecord) (q : Ui) → AreHeld l p past ports → IsSome (find q ports) → (r : PortRecord) × MayHold l p past q r
may-hold l p past ports q held some = by (find q ports) (held q) some
  where
    by : (o : Option PortRecord) → ((r : PortRecord) → o ≡ Some r → MayHold l p past q r) → IsSome o → (r : PortRecord) × MayHold l p past q r
    by None h e = absurd (false≢true e)
    by (Some r) h e = (r, h r refl)

pub listed : (l : Layout) (q : Ui) → q.kind ≡ kinds.Port → can_make_port l q ≡ true → (same_kind q.kind kinds.Port && can_make_port l q) ≡ true
listed l q kind can = λ i. same_kind (kind i) kinds.Port && can i

-- nothing more was put
pub no-more : (puts : List Outgoing) → puts ≡ puts ++ []
no-more puts = sym (append-nil puts)

-- a layout that has a place has at least one of each site
pub some-turns : (l : Layout) (p : ℕ) → has_place l p ≡ true → 1 ≤ l.turns
some-turns l p h = by l.turns (and_parts (nat_le 1 p) (nat_le p (l.sites * l.turns)) h)
  where
    by : (t : ℕ) → (nat_le 1 p ≡ true) × (nat_le p (l.sites * t) ≡ true) → 1 ≤ t
    by zero k =
        let low : 1 ≤ p = grind (arith, k.0) in
        let high : p ≤ l.sites * 0 = grind (arith, k.1) in
        let none = mul-zero l.sites in
        absurd (omega (arith, low, high, none))
    by (suc t) k = omega arith

-- Receiving: a message that is taken is one that waited, and a request has a number.

pub sound-taken : (a : Ui) (o : Option PortRecord) → ((r : PortRecord) → o ≡ Some r → All IsSound r.pending) → IsSoundTaken (taken a o)
sound-taken a None k = tt
sound-taken a (Some r) k = by (same_ui r.actor a) r.pending (k r refl)
  where
    by : (b : Bool) (ms : List Message) → All IsSound ms → IsSoundTaken (cond b (first_at r.first ms) T.NotHere)
    by true [] h = tt
    by true (m ∷ ms) h = All-head IsSound m ms h
    by false ms h = tt

pub has-number : (m : Message) → IsSound m → HasNumber m.tag
has-number m h =
    let both = and_parts (has_range_of_id m.id && has_range_of_tag m.tag) (has_kinds_in_tag m.tag)
    (and_parts (has_range_of_id m.id && has_range_of_tag m.tag && has_kinds_in_tag m.tag) (nat_le (length m.body) 4096) h).0 in
    by m.tag (and_parts (has_range_of_id m.id) (has_range_of_tag m.tag) both.0).1 both.1
  where
    by : (t : Tag) → has_range_of_tag t ≡ true → has_kinds_in_tag t ≡ true → HasNumber t
    by tags.Plain g k = tt
    by (tags.Request number back) g k = (grind (arith, g), from_same_kind back.kind kinds.Port k)
    by (tags.Reply client number) g k = tt
