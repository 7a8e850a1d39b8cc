-- The numbers of a summary, entry by entry.
use Rattle.std.proofs.Common.{ℕ, ◌≡◌, ◌≢◌, ◌+◌, ◌-◌, nat_lt, Bool, true, false, ◌&&◌, not, cond, if◌then◌else◌, List, [], ◌∷◌, ◌++◌, length, reverse, Option, Some, None, is_some, refl, sym, ◌∙◌, ap, subst, arith, inl, inr, sum_by, count_by, ⊎_elim}
use Rattle.std.specs.Option.{option_or}
use Rattle.std.proofs.lemmas.Bool.{cases_Bool, false≢true, true≢false}
use Rattle.std.proofs.lemmas.List.{length_push, reverse-append}
use Rattle.std.proofs.lemmas.List.Sums.{sum_by-append}
use Rattle.chorus_ui.specs.declared.ui.Ui.{Ui}
use Rattle.chorus_ui.specs.declared.layout.Layout.{Layout}
use Rattle.chorus_ui.specs.Layout.{IsLayout}
use Rattle.chorus_ui.specs.Name.{same_ui}
use Rattle.chorus_ui.proofs.Names.{same_ui_tells, same_ui-self}
use Rattle.chorus_entry.specs.declared.entry.Entry.{Entry}
use Rattle.chorus_entry.specs.declared.id.MsgId.{MsgId}
use Rattle.chorus_entry.specs.declared.act.Act.{Act}
use Rattle.chorus_entry.specs.declared.act.Act.TheVariants.{Make, Accept, Full, Already, ClientsFull, Take, Empty, Rehome, Depart, Arrive, Delete}
use Rattle.chorus_entry.specs.Act.{held_port_of}
use Rattle.chorus_world.specs.declared.spot.Spot as world
use Rattle.chorus_world.specs.declared.spot.Spot.TheVariants as spots
use Rattle.chorus_world.specs.Views.{is_on, on, views}
use Rattle.chorus_entry.specs.Same.{are_same}
use Rattle.chorus_world.specs.Ports.{PortState, fate, fate_after, changed, new_port, is_held, is_held_at, is_moving, arrived}
use Rattle.chorus_world.specs.Steps.{act_may, is_legal}
use Rattle.chorus_world.specs.Fates.{Received, fate_left}
use Rattle.chorus_world.proofs.Steps.LegalLemmas.{legal_parts, on_is, skips, keeps}
use Rattle.chorus_world.proofs.Ports.LineLemmas.{Needs, needs, MakesNew, held_at, coming, none_some}
use Rattle.chorus_world.proofs.Ports.PortMoves.{make_new}
use Rattle.chorus_world.proofs.Messages.MessageSteps.{legal_inv}
use Rattle.chorus_show.specs.declared.queues.Spot.{Spot}
use Rattle.chorus_show.specs.declared.queues.Spot.TheVariants.{Held, Moving, Ended}
use Rattle.chorus_show.specs.Summary.{accepts, gives, count, waiting, put_by, spot_in, last_spot, same_spot, port_left, ports_at}
use Rattle.chorus_show.specs.Tally.{is_spot}
use Rattle.law_summary.specs.Counted.{spot_of, spot_in_world, waiting_in_world, IsFateOf, FatesFollowPorts, SummariesCountTheWorld}

-- Lists in order, of which the newest entry is the last.

pub count_more : {X : Type 0} → (test : X → Bool) (xs ys : List X) → count_by test (xs ++ ys) ≡ count_by test xs + count_by test ys
count_more test xs ys = sum_by-append (λ x. cond (test x) 1 0) xs ys

or_none : {X : Type 0} (o : Option X) → option_or o None ≡ o
or_none None = refl
or_none (Some x) = refl

or_or : {X : Type 0} (a b c : Option X) → option_or (option_or a b) c ≡ option_or a (option_or b c)
or_or None b c = refl
or_or (Some x) b c = refl

spot_more : (q : Ui) (es : List Entry) (e : Entry) → last_spot q (es ++ e ∷ []) ≡ option_or (spot_in q (put_by e.act)) (last_spot q es)
spot_more q [] e = sym (or_none (spot_in q (put_by e.act)))
spot_more q (x ∷ es) e =
    ap (λ o. option_or o (spot_in q (put_by x.act))) (spot_more q es e)
    ∙ or_or (spot_in q (put_by e.act)) (last_spot q es) (spot_in q (put_by x.act))

-- What the entries show of one port.

-- the numbers of messages that it accepted and gave out, and its spot, in the world
abbrev pub accepted_in : Option PortState → ℕ
accepted_in None = 0
accepted_in (Some f) = length f.accepted

abbrev pub taken_in : Option PortState → ℕ
taken_in None = 0
taken_in (Some f) = f.taken

-- the same, of an entry and a past
abbrev pub accepts_one : Ui → Act → ℕ
accepts_one q a = cond (accepts q a) 1 0

abbrev pub gives_one : Ui → Act → ℕ
gives_one q a = cond (gives q a) 1 0

record Shown (q : Ui) (a : Act) (old new : Option PortState) : Type 0 where
  accepted : accepted_in new ≡ accepted_in old + accepts_one q a
  taken : taken_in new ≡ taken_in old + gives_one q a
  spot : spot_in_world new ≡ option_or (spot_in q (put_by a)) (spot_in_world old)

held_spot : (s : world.Spot) → is_held s ≡ true → spot_of s ≡ Held
held_spot (spots.Held a) h = refl
held_spot (spots.Moving a) h = absurd (false≢true h)
held_spot spots.Ended h = absurd (false≢true h)

arrived_spot : (s : world.Spot) → is_moving s ≡ true → spot_of (arrived s) ≡ Held
arrived_spot (spots.Held a) h = absurd (false≢true h)
arrived_spot (spots.Moving a) h = refl
arrived_spot spots.Ended h = absurd (false≢true h)

named : (r q : Ui) → Some r ≡ Some q → same_ui r q ≡ true
named r q m = let same : r ≡ q = cc in subst (λ z. same_ui r z ≡ true) same (same_ui-self r)

-- it puts the port at this spot
put_here : (b : Bool) (s : Spot) (o : Option Spot) → b ≡ true → Some s ≡ option_or (if b then Some s else None) o
put_here true s o h = refl
put_here false s o h = absurd (false≢true h)

one_more : (n m : ℕ) (b : Bool) → b ≡ true → m ≡ n + 1 → m ≡ n + cond b 1 0
one_more n m true h e = e
one_more n m false h e = absurd (false≢true h)

pub no_more : (n : ℕ) → n ≡ n + 0
no_more n = omega arith

zero_more : (n : ℕ) → 0 + n ≡ n
zero_more n = omega arith

-- an entry on the line of a port that is made
module _ (q : Ui) (p : ℕ) (f : PortState) where
  -- it leaves it where it is
  stays : (a : Act) → accepts_one q a ≡ 0 → gives_one q a ≡ 0 → spot_in q (put_by a) ≡ None → changed a f ≡ f → Shown q a (Some f) (Some (changed a f))
  stays a na ng ns e =
      record {
        accepted = ap (λ g. length g.accepted) e ∙ (no_more (length f.accepted) ∙ sym (ap (λ n. length f.accepted + n) na));
        taken = ap (λ g. g.taken) e ∙ (no_more f.taken ∙ sym (ap (λ n. f.taken + n) ng));
        spot = ap (λ g. Some (spot_of g.spot)) e ∙ sym (ap (λ o. option_or o (Some (spot_of f.spot))) ns);
      }

  accept : (x : MsgId) (r : Ui) (n : ℕ) → Some r ≡ Some q → Shown q (Accept x r n) (Some f) (Some (changed (Accept x r n) f))
  accept x r n m =
      record {
        accepted = one_more (length f.accepted) (length (f.accepted ++ x ∷ [])) (same_ui r q) (named r q m) (length_push f.accepted x);
        taken = no_more f.taken;
        spot = refl;
      }

  take : (r : Ui) (n : ℕ) (x : MsgId) → Some r ≡ Some q → Shown q (Take r n x) (Some f) (Some (changed (Take r n x) f))
  take r n x m =
      record { accepted = no_more (length f.accepted); taken = one_more f.taken (f.taken + 1) (same_ui r q) (named r q m) refl; spot = refl }

  rehome : (r b : Ui) → is_held f.spot ≡ true → Shown q (Rehome r b) (Some f) (Some (changed (Rehome r b) f))
  rehome r b h =
      record { accepted = no_more (length f.accepted); taken = no_more f.taken; spot = ap (λ s. Some s) (sym (held_spot f.spot h)) }

  depart : (r : Ui) (to : ℕ) (b : Ui) (hop : ℕ) → Some r ≡ Some q → Shown q (Depart r to b hop) (Some f) (Some (changed (Depart r to b hop) f))
  depart r to b hop m =
      record { accepted = no_more (length f.accepted); taken = no_more f.taken; spot = put_here (same_ui r q) Moving (Some (spot_of f.spot)) (named r q m) }

  arrive : (r : Ui) (hop : ℕ) → Some r ≡ Some q → is_moving f.spot ≡ true → Shown q (Arrive r hop) (Some f) (Some (changed (Arrive r hop) f))
  arrive r hop m h =
      record {
        accepted = no_more (length f.accepted);
        taken = no_more f.taken;
        spot = ap (λ s. Some s) (arrived_spot f.spot h) ∙ put_here (same_ui r q) Held (Some (spot_of f.spot)) (named r q m);
      }

  delete : (r : Ui) (xs : List MsgId) → Some r ≡ Some q → Shown q (Delete r xs) (Some f) (Some (changed (Delete r xs) f))
  delete r xs m =
      record { accepted = no_more (length f.accepted); taken = no_more f.taken; spot = put_here (same_ui r q) Ended (Some (spot_of f.spot)) (named r q m) }

make : (q : Ui) (p : ℕ) (r b : Ui) (n : ℕ) (o : Option PortState) → o ≡ None → Some r ≡ Some q → Shown q (Make r b n) o (fate_after p (Make r b n) o)
make q p r b n o new m =
    subst (λ z. Shown q (Make r b n) z (Some (new_port p b n))) (sym new)
    (record { accepted = no_more 0; taken = no_more 0; spot = put_here (same_ui r q) Held None (named r q m) })

-- the port is held here, and so made
held_case : (q : Ui) (p : ℕ) (a : Act) (o : Option PortState) → is_held_at p o ≡ true → ((f : PortState) → is_held f.spot ≡ true → fate_after p a (Some f) ≡ Some (changed a f)) → ((f : PortState) → is_held f.spot ≡ true → Shown q a (Some f) (Some (changed a f))) → Shown q a o (fate_after p a o)
held_case q p a o h after k =
    let f = held_at p o h in
    subst (λ z. Shown q a z (fate_after p a z)) (sym f.1) (subst (λ z. Shown q a (Some f.0) z) (sym (after f.0 f.2)) (k f.0 f.2))

-- every entry on the line of a port shows what it makes of it
shown : (q : Ui) (p : ℕ) (a : Act) (o : Option PortState) → held_port_of a ≡ Some q → Needs p a o → MakesNew a o → Shown q a o (fate_after p a o)
shown q p (Make r b n) o m h new = make q p r b n o new m
shown q p (Accept x r n) o m h new = held_case q p (Accept x r n) o h (λ f i. refl) (λ f i. accept q p f x r n m)
shown q p (Full x r n) o m h new = held_case q p (Full x r n) o h (λ f i. refl) (λ f i. stays q p f (Full x r n) refl refl refl refl)
shown q p (Already x r) o m h new = held_case q p (Already x r) o h (λ f i. refl) (λ f i. stays q p f (Already x r) refl refl refl refl)
shown q p (ClientsFull x r) o m h new = held_case q p (ClientsFull x r) o h (λ f i. refl) (λ f i. stays q p f (ClientsFull x r) refl refl refl refl)
shown q p (Take r n x) o m h new = held_case q p (Take r n x) o h (λ f i. refl) (λ f i. take q p f r n x m)
shown q p (Empty r) o m h new = held_case q p (Empty r) o h (λ f i. refl) (λ f i. stays q p f (Empty r) refl refl refl refl)
shown q p (Rehome r b) o m h new = held_case q p (Rehome r b) o h (λ f i. refl) (λ f i. rehome q p f r b i)
shown q p (Depart r to b hop) o m h new = held_case q p (Depart r to b hop) o h (λ f i. refl) (λ f i. depart q p f r to b hop m)
shown q p (Delete r xs) o m h new = held_case q p (Delete r xs) o h (λ f i. refl) (λ f i. delete q p f r xs m)
shown q p (Arrive r hop) o m h new =
    let f = coming p hop o h in subst (λ z. Shown q (Arrive r hop) z (fate_after p (Arrive r hop) z)) (sym f.1) (arrive q p f.0 r hop m f.2)
shown q p _ o m h new = none_some q m

-- An entry that is not on the line shows nothing of the port.

off : (q r : Ui) → are_same same_ui (Some q) (Some r) ≡ false → same_ui r q ≡ false
off q r h = ⊎_elim (λ same. absurd (false≢true (sym h ∙ (ap (same_ui q) same.1 ∙ same_ui-self q)))) (λ other. other.0) (same_ui_tells r q)

off_accepts : (q : Ui) (a : Act) → are_same same_ui (Some q) (held_port_of a) ≡ false → accepts q a ≡ false
off_accepts q (Accept x r n) h = off q r h
off_accepts q _ h = refl

off_gives : (q : Ui) (a : Act) → are_same same_ui (Some q) (held_port_of a) ≡ false → gives q a ≡ false
off_gives q (Take r n x) h = off q r h
off_gives q _ h = refl

off_puts : (q : Ui) (a : Act) → are_same same_ui (Some q) (held_port_of a) ≡ false → spot_in q (put_by a) ≡ None
off_puts q (Make r b n) h = ap (λ c. if c then Some Held else None) (off q r h)
off_puts q (Depart r to b hop) h = ap (λ c. if c then Some Moving else None) (off q r h)
off_puts q (Arrive r hop) h = ap (λ c. if c then Some Held else None) (off q r h)
off_puts q (Delete r xs) h = ap (λ c. if c then Some Ended else None) (off q r h)
off_puts q _ h = refl

-- All entries.

pub record Shows (q : Ui) (es : List Entry) (o : Option PortState) : Type 0 where
  pub accepted : count (accepts q) es ≡ accepted_in o
  pub taken : count (gives q) es ≡ taken_in o
  pub spot : last_spot q es ≡ spot_in_world o

count_last : (test : Act → Bool) (es : List Entry) (e : Entry) → count test (es ++ e ∷ []) ≡ count test es + cond (test e.act) 1 0
count_last test es e =
    count_more (λ (x : Entry). test x.act) es (e ∷ []) ∙ ap (λ n. count test es + n) (zero_more (cond (test e.act) 1 0))

module _ (q : Ui) (es : List Entry) (e : Entry) (old new : Option PortState) (i : Shows q es old) where
  line_more : Shown q e.act old new → Shows q (es ++ e ∷ []) new
  line_more h =
      record {
        accepted = count_last (accepts q) es e ∙ (ap (λ n. n + accepts_one q e.act) i.accepted ∙ sym h.accepted);
        taken = count_last (gives q) es e ∙ (ap (λ n. n + gives_one q e.act) i.taken ∙ sym h.taken);
        spot = spot_more q es e ∙ (ap (λ o. option_or (spot_in q (put_by e.act)) o) i.spot ∙ sym h.spot);
      }

off_line : (q : Ui) (a : Act) (o : Option PortState) → are_same same_ui (Some q) (held_port_of a) ≡ false → Shown q a o o
off_line q a o h =
    record {
      accepted = no_more (accepted_in o) ∙ sym (ap (λ b. accepted_in o + cond b 1 0) (off_accepts q a h));
      taken = no_more (taken_in o) ∙ sym (ap (λ b. taken_in o + cond b 1 0) (off_gives q a h));
      spot = sym (ap (λ s. option_or s (spot_in_world o)) (off_puts q a h));
    }

makes_new : (l : Layout) (past : List Entry) (p s : ℕ) (a : Act) (q : Ui) → IsLayout l → is_legal l past ≡ true → held_port_of a ≡ Some q → act_may l (views past p s a) p s a ≡ true → MakesNew a (fate (on q past))
makes_new l past p s (Make r b n) q i h m may =
    let same : r ≡ q = cc in
    subst (λ z. fate (on z past) ≡ None) same (make_new l past p s r b n i ((legal_inv l past i h).ports r) may).0
makes_new l past p s _ q i h m may = tt

pub shows : (l : Layout) (past : List Entry) (q : Ui) → IsLayout l → is_legal l past ≡ true → Shows q (reverse past) (fate (on q past))
shows l [] q i h = record { accepted = refl; taken = refl; spot = refl }
shows l (e ∷ past) q i h =
    let two = legal_parts l e past h in
    let old = shows l past q i two.1 in
    subst (λ es. Shows q es (fate (on q (e ∷ past)))) (sym (reverse-append (e ∷ []) past))
    (elim (cases_Bool (is_on (Some q) e)) [
      | inl t ↦ (
          let m = on_is q (held_port_of e.act) t in
          let o = fate (on q past) in
          let now = shown q e.place e.act o m (needs l past e.clock e.place e.seat e.act q m two.0) (makes_new l past e.place e.seat e.act q i two.1 m two.0) in
          subst (λ port. Shows q (reverse past ++ e ∷ []) (fate port)) (sym (keeps (is_on (Some q)) e past t))
          (line_more q (reverse past) e o (fate_after e.place e.act o) old now))
      | inr n ↦ (
          let o = fate (on q past) in
          subst (λ port. Shows q (reverse past ++ e ∷ []) (fate port)) (sym (skips (is_on (Some q)) e past n))
          (line_more q (reverse past) e o o old (off_line q e.act o n)))
    ])

-- The ports that are left at a spot.

module _ (spot : Spot) (q : Ui) where
  abbrev once : Option Spot → ℕ
  once o = if is_spot spot o then 1 else 0

  alone : (b : Bool) (u : Ui) → count_by (same_ui q) (if b then u ∷ [] else []) ≡ (if b && same_ui q u then 1 else 0)
  alone true u = by (same_ui q u)
    where
      by : (c : Bool) → 0 + cond c 1 0 ≡ (if c then 1 else 0)
      by true = omega arith
      by false = omega arith
  alone false u = refl

  first : (b c : Bool) (o : Option Spot) (s : Spot) → c ≡ true → b ≡ same_spot s spot → (if (b && not (is_some o)) && c then 1 else 0) + once o ≡ once (option_or o (Some s))
  first true true None s h e = sym (no_more 1) ∙ ap (λ d. if d then 1 else 0) e
  first false true None s h e = sym (no_more 0) ∙ ap (λ d. if d then 1 else 0) e
  first true true (Some t) s h e = zero_more (once (Some t))
  first false true (Some t) s h e = zero_more (once (Some t))
  first b false o s h e = absurd (false≢true h)

  others : (b c : Bool) (n : ℕ) → c ≡ false → (if b && c then 1 else 0) + n ≡ n
  others true false n h = zero_more n
  others false false n h = zero_more n
  others b true n h = absurd (true≢false h)

  tells : (u : Ui) (P : Type 0) → (same_ui q u ≡ true → same_ui u q ≡ true → P) → (same_ui q u ≡ false → same_ui u q ≡ false → P) → P
  tells u P own other =
      ⊎_elim
      (λ same. own (subst (λ z. same_ui z u ≡ true) same.1 (same_ui-self u)) same.0)
      (λ differs. other (different differs.1) differs.0)
      (same_ui_tells u q)
    where
      different : u ≢ q → same_ui q u ≡ false
      different d = ⊎_elim (λ same. absurd (d (sym same.1))) (λ o. o.0) (same_ui_tells q u)

  ports_once : (es : List Entry) → count_by (same_ui q) (ports_at spot es) ≡ once (last_spot q es)
  ports_once [] = refl
  ports_once (e ∷ es) = count_more (same_ui q) (port_left spot (put_by e.act) es) (ports_at spot es) ∙ by (ports_once es) (put_by e.act)
    where
      by : count_by (same_ui q) (ports_at spot es) ≡ once (last_spot q es) → (o : Option (Ui × Spot)) → count_by (same_ui q) (port_left spot o es) + count_by (same_ui q) (ports_at spot es) ≡ once (option_or (last_spot q es) (spot_in q o))
      by rest None = zero_more (count_by (same_ui q) (ports_at spot es)) ∙ rest ∙ sym (ap once (or_none (last_spot q es)))
      by rest (Some put) =
          let b = same_spot put.1 spot && not (is_some (last_spot put.0 es)) in
          let parts : count_by (same_ui q) (port_left spot (Some put) es) + count_by (same_ui q) (ports_at spot es) ≡ (if b && same_ui q put.0 then 1 else 0) + once (last_spot q es) =
          ap (λ n. n + count_by (same_ui q) (ports_at spot es)) (alone b put.0) ∙ ap (λ n. (if b && same_ui q put.0 then 1 else 0) + n) rest in
          parts
          ∙ tells put.0 ((if b && same_ui q put.0 then 1 else 0) + once (last_spot q es) ≡ once (option_or (last_spot q es) (spot_in q (Some put))))
          (λ one two.
          let is : put.0 ≡ q = ⊎_elim (λ same. same.1) (λ other. absurd (false≢true (sym other.0 ∙ two))) (same_ui_tells put.0 q) in
          ap (λ u. (if (same_spot put.1 spot && not (is_some (last_spot u es))) && same_ui q put.0 then 1 else 0) + once (last_spot q es)) is
          ∙ first (same_spot put.1 spot) (same_ui q put.0) (last_spot q es) put.1 one refl
          ∙ sym (ap (λ c. once (option_or (last_spot q es) (if c then Some put.1 else None))) two))
          (λ one two.
          others b (same_ui q put.0) (once (last_spot q es)) one
          ∙ sym (ap (λ c. once (option_or (last_spot q es) (if c then Some put.1 else None))) two ∙ ap once (or_none (last_spot q es))))

-- The law.

sum_same : (f g : Ui → ℕ) → ((q : Ui) → f q ≡ g q) → (qs : List Ui) → sum_by f qs ≡ sum_by g qs
sum_same f g e qs i = sum_by (λ q. e q i) qs

waits : (q : Ui) (es : List Entry) (o : Option PortState) → Shows q es o → waiting es q ≡ waiting_in_world o
waits q es o h = ap (λ n. n - count (gives q) es) h.accepted ∙ (ap (λ n. accepted_in o - n) h.taken ∙ left o)
  where
    left : (o : Option PortState) → accepted_in o - taken_in o ≡ waiting_in_world o
    left None = refl
    left (Some f) = refl

pub summaries_count : SummariesCountTheWorld
summaries_count l past i h =
    let each : (q : Ui) → waiting (reverse past) q ≡ waiting_in_world (fate (on q past)) = λ q. waits q (reverse past) (fate (on q past)) (shows l past q i h) in
    record {
      ports = λ spot q. ports_once spot q (reverse past) ∙ ap (λ o. if is_spot spot o then 1 else 0) (shows l past q i h).spot;
      waiting = each;
      sum = λ spot. sum_same (waiting (reverse past)) (λ q. waiting_in_world (fate (on q past))) each (ports_at spot (reverse past));
    }

-- The fates.

left_fate : (b : Bool) (s : world.Spot) → IsFateOf (spot_of s) (if b then Received else fate_left s)
left_fate true s = record { queued = λ h. cc; under_way = λ h. cc; discarded = λ h. cc }
left_fate false (spots.Held a) = record { queued = λ h. refl; under_way = λ h. cc; discarded = λ h. cc }
left_fate false (spots.Moving a) = record { queued = λ h. cc; under_way = λ h. refl; discarded = λ h. cc }
left_fate false spots.Ended = record { queued = λ h. cc; under_way = λ h. cc; discarded = λ h. refl }

pub fates_follow : FatesFollowPorts
fates_follow f i = left_fate (nat_lt i f.taken) f.spot
