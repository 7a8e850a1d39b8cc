-- Journals that agree on all that their entries name tell the same.
-- j and k are journals, es entries of them, x is an id, g a group, q a port.
use Rattle.std.proofs.Common.{◌≡◌, Bool, true, false, ◌&&◌, ◌||◌, cond, List, [], ◌∷◌, ◌++◌, reverse, Option, Some, None, is_some, refl, sym, ◌∙◌, ap, subst}
use Rattle.std.specs.Option.{option_map, option_or}
use Rattle.std.proofs.lemmas.Bool.{false≢true}
use Rattle.std.proofs.lemmas.List.{reverse-append}
use Rattle.std.proofs.lemmas.List.Elements.{All-head, All-tail}
use Rattle.chorus_ui.specs.declared.ui.Ui.{Ui}
use Rattle.chorus_ui.proofs.Names.{from_same_ui}
use Rattle.chorus_entry.specs.declared.act.Act.{Act}
use Rattle.chorus_entry.specs.declared.act.Act.TheVariants as acts
use Rattle.chorus_entry.specs.declared.answer.Answer.{Answer}
use Rattle.chorus_entry.specs.declared.entry.Entry.{Entry}
use Rattle.chorus_entry.specs.declared.id.MsgId.{MsgId}
use Rattle.chorus_entry.specs.Act.{message_of, is_verdict, answer_of}
use Rattle.chorus_entry.specs.MsgId.{same_id}
use Rattle.chorus_entry.specs.Same.{are_same}
use Rattle.chorus_entry.proofs.Same.{from_same_id, same_id-self}
use Rattle.chorus_world.specs.Groups.{members, rotation, groups_made}
use Rattle.chorus_world.specs.GroupLaws.{copies_by, copies_of}
use Rattle.chorus_world.specs.Messages.{verdict, verdict_by}
use Rattle.chorus_world.specs.Places.{copies, deletes, is_deleted, ports_made}
use Rattle.chorus_world.specs.Views.{makes_group, is_group}
use Rattle.chorus_groups.specs.Groups as table
use Rattle.law_explore.specs.Outcome.{plain_answer, is_stale_by, is_stale_at, made_by}
use Rattle.law_explore.specs.Positions.{TellAlike}
use Rattle.chorus_explore.specs.AlikeSites.Journals.{ids_of, TellSame, HaveSame, Agree, AgreeAll}

abbrev pub AgreeEach : List Entry → List Entry → List Entry → Type 0
AgreeEach j k [] = Unit {0}
AgreeEach j k (e ∷ es) = Agree j k e.act × AgreeEach j k es

each : (j k es : List Entry) → AgreeAll j k es → AgreeEach j k es
each j k [] h = tt
each j k (e ∷ es) h =
    (All-head (λ (f : Entry). Agree j k f.act) e es h, each j k es (All-tail (λ (f : Entry). Agree j k f.act) e es h))

-- In which order the entries are gone through does not matter.

all-append : (j k es fs : List Entry) → AgreeEach j k es → AgreeEach j k fs → AgreeEach j k (es ++ fs)
all-append j k [] fs h f = f
all-append j k (e ∷ es) fs h f = (h.0, all-append j k es fs h.1 f)

pub all-reverse : (j k es : List Entry) → AgreeEach j k es → AgreeEach j k (reverse es)
all-reverse j k [] h = h
all-reverse j k (e ∷ es) h =
    subst (AgreeEach j k) (sym (reverse-append (e ∷ []) es))
    (all-append j k (reverse es) (e ∷ []) (all-reverse j k es h.1) (h.0, tt))

-- Whether a message is named.

abbrev names : MsgId → Act → Bool
names x act = are_same same_id (Some x) (message_of act)

abbrev is_named : MsgId → List Entry → Bool
is_named x [] = false
is_named x (e ∷ es) = names x e.act || is_named x es

or-parts : (a b : Bool) → (a || b) ≡ false → (a ≡ false) × (b ≡ false)
or-parts true b h = absurd (false≢true (sym h))
or-parts false b h = (refl, h)

named-tells : (j k : List Entry) (x : MsgId) (es : List Entry) → AgreeEach j k es → is_named x es ≡ true → TellSame x j k
named-tells j k x [] a h = absurd (false≢true h)
named-tells j k x (e ∷ es) a h = by (names x e.act) refl h (named-tells j k x es a.1)
  where
    found : (o : Option MsgId) → message_of e.act ≡ o → are_same same_id (Some x) o ≡ true → TellSame x j k
    found None m s = absurd (false≢true s)
    found (Some y) m s = subst (λ (z : MsgId). TellSame z j k) (sym (from_same_id x y s)) (a.0.message y m)

    by : (b : Bool) → names x e.act ≡ b → (b || is_named x es) ≡ true → (is_named x es ≡ true → TellSame x j k) → TellSame x j k
    by true m s rest = found (message_of e.act) refl m
    by false m s rest = rest s

and-none : (b : Bool) (o : Option Answer) → cond (b && false) o None ≡ None
and-none true o = refl
and-none false o = refl

unnamed-verdict : (x : MsgId) (es : List Entry) → is_named x es ≡ false → verdict x es ≡ None
unnamed-verdict x [] h = refl
unnamed-verdict x (e ∷ es) h =
    let both = or-parts (names x e.act) (is_named x es) h in
    none (verdict x es) (verdict_by x e.act) (unnamed-verdict x es both.1)
    (ap (λ b. cond (is_verdict e.act && b) (answer_of e.act) None) both.0 ∙ and-none (is_verdict e.act) (answer_of e.act))
  where
    none : (o p : Option Answer) → o ≡ None → p ≡ None → option_or o p ≡ None
    none o p e f = ap (λ z. option_or z p) e ∙ f

turned : (x y : MsgId) → same_id x y ≡ false → same_id y x ≡ false
turned x y h = by (same_id y x) refl
  where
    by : (b : Bool) → same_id y x ≡ b → b ≡ false
    by false e = refl
    by true e = absurd (false≢true (sym h ∙ ap (same_id x) (from_same_id y x e) ∙ same_id-self x))

unnamed-copies : (x : MsgId) (es : List Entry) → is_named x es ≡ false → copies_of x es ≡ []
unnamed-copies x [] h = refl
unnamed-copies x (e ∷ es) h =
    let both = or-parts (names x e.act) (is_named x es) h in
    (λ i. unnamed-copies x es both.1 i ++ none e.act both.0 i)
  where
    none : (act : Act) → names x act ≡ false → copies_by x act ≡ []
    none (acts.Choose y g qs) n = ap (λ b. cond b (copies y g 1 qs) []) (turned x y n)
    none act n = refl

unnamed-stale : (x : MsgId) (es : List Entry) → is_named x es ≡ false → is_stale_at x es ≡ false
unnamed-stale x [] h = refl
unnamed-stale x (e ∷ es) h =
    let both = or-parts (names x e.act) (is_named x es) h in
    (λ i. unnamed-stale x es both.1 i || none e.act both.0 i)
  where
    none : (act : Act) → names x act ≡ false → is_stale_by x act ≡ false
    none (acts.Stale y q tried to hop) n = turned x y n
    none act n = refl

tell-same : (j k : List Entry) → AgreeEach j k j → AgreeEach j k k → (x : MsgId) → TellSame x j k
tell-same j k a b x = by (is_named x j) (is_named x k) refl refl
  where
    by : (n m : Bool) → is_named x j ≡ n → is_named x k ≡ m → TellSame x j k
    by true m e f = named-tells j k x j a e
    by false true e f = named-tells j k x k b f
    by false false e f =
        record {
          verdicts = ap (option_map plain_answer) (unnamed-verdict x j e ∙ sym (unnamed-verdict x k f));
          copies = ap ids_of (unnamed-copies x j e ∙ sym (unnamed-copies x k f));
          stale = unnamed-stale x j e ∙ sym (unnamed-stale x k f);
        }

-- Groups.

made-same : (j k : List Entry) (g : Ui) (es : List Entry) → AgreeEach j k es → is_group g es ≡ true → HaveSame g j k
made-same j k g [] a h = absurd (false≢true h)
made-same j k g (e ∷ es) a h = by (makes_group g e.act) refl h (made-same j k g es a.1)
  where
    found : (act : Act) → e.act ≡ act → makes_group g act ≡ true → HaveSame g j k
    found (acts.GroupMake h) m s = subst (λ (z : Ui). HaveSame z j k) (from_same_ui h g s) (a.0.group h m)
    found act m s = absurd (false≢true s)

    by : (b : Bool) → makes_group g e.act ≡ b → (b || is_group g es) ≡ true → (is_group g es ≡ true → HaveSame g j k) → HaveSame g j k
    by true m s rest = found e.act refl m
    by false m s rest = rest s

-- a group that was not made has no member
abbrev pub UnmadeIsEmpty : List Entry → Type 0
UnmadeIsEmpty j = (g : Ui) → is_group g j ≡ false → (members g j ≡ []) × (rotation g j ≡ 0)

have-same : (j k : List Entry) → AgreeEach j k j → AgreeEach j k k → UnmadeIsEmpty j → UnmadeIsEmpty k → (g : Ui) → HaveSame g j k
have-same j k a b empty others g = by (is_group g j) (is_group g k) refl refl
  where
    by : (n m : Bool) → is_group g j ≡ n → is_group g k ≡ m → HaveSame g j k
    by true m e f = made-same j k g j a e
    by false true e f = made-same j k g k b f
    by false false e f =
        let p = empty g e in
        let q = others g f in
        record { named = e ∙ sym f; members_are = p.0 ∙ sym q.0; rotates = p.1 ∙ sym q.1 }

pub empty-in : (t : table.Table) (g : Ui) → is_some (table.group_of g t.groups) ≡ false → (table.members g t ≡ []) × (table.rotation g t ≡ 0)
empty-in t g h = by (table.group_of g t.groups) refl h
  where
    by : (o : Option table.Group) → table.group_of g t.groups ≡ o → is_some o ≡ false → (table.members g t ≡ []) × (table.rotation g t ≡ 0)
    by None e s = (ap table.members_in e, ap table.rotation_in e)
    by (Some x) e s = absurd (false≢true (sym s))

-- Ports that were deleted.

deleted-same : (j k : List Entry) (q : Ui) (es : List Entry) → AgreeEach j k es → is_deleted q es ≡ true → is_deleted q j ≡ is_deleted q k
deleted-same j k q [] a h = absurd (false≢true h)
deleted-same j k q (e ∷ es) a h = by (deletes q e.act) refl h (deleted-same j k q es a.1)
  where
    found : (act : Act) → e.act ≡ act → deletes q act ≡ true → is_deleted q j ≡ is_deleted q k
    found (acts.Delete r xs) m s = subst (λ (z : Ui). is_deleted z j ≡ is_deleted z k) (from_same_ui r q s) (a.0.deleted r xs m)
    found act m s = absurd (false≢true s)

    by : (b : Bool) → deletes q e.act ≡ b → (b || is_deleted q es) ≡ true → (is_deleted q es ≡ true → is_deleted q j ≡ is_deleted q k) → is_deleted q j ≡ is_deleted q k
    by true m s rest = found e.act refl m
    by false m s rest = rest s

are-deleted : (j k : List Entry) → AgreeEach j k j → AgreeEach j k k → (q : Ui) → is_deleted q j ≡ is_deleted q k
are-deleted j k a b q = by (is_deleted q j) (is_deleted q k) refl refl
  where
    by : (n m : Bool) → is_deleted q j ≡ n → is_deleted q k ≡ m → is_deleted q j ≡ is_deleted q k
    by true m e f = deleted-same j k q j a e
    by false true e f = deleted-same j k q k b f
    by false false e f = e ∙ sym f

tells-alike : (j k : List Entry) → AgreeEach j k j → AgreeEach j k k → UnmadeIsEmpty j → UnmadeIsEmpty k
    → ports_made j ≡ ports_made k → groups_made j ≡ groups_made k → made_by j ≡ made_by k → TellAlike j k
tells-alike j k a b empty others ports groups made =
    record {
      reads =
          record {
            ports = ports;
            groups = groups;
            named = λ g. (have-same j k a b empty others g).named;
            members_are = λ g. (have-same j k a b empty others g).members_are;
            rotates = λ g. (have-same j k a b empty others g).rotates;
            gone = are-deleted j k a b;
          };
      verdicts = λ x. (tell-same j k a b x).verdicts;
      copies = λ x. (tell-same j k a b x).copies;
      stale = λ x. (tell-same j k a b x).stale;
      made = made;
    }

-- the entries, with the oldest first
pub entries-tell : (j k es fs : List Entry) → reverse es ≡ j → reverse fs ≡ k → AgreeAll j k es → AgreeAll j k fs → UnmadeIsEmpty j → UnmadeIsEmpty k
    → ports_made j ≡ ports_made k → groups_made j ≡ groups_made k → made_by (reverse es) ≡ made_by (reverse fs) → TellAlike j k
entries-tell j k es fs is_j is_k a b empty others ports groups made =
    tells-alike j k
    (subst (AgreeEach j k) is_j (all-reverse j k es (each j k es a)))
    (subst (AgreeEach j k) is_k (all-reverse j k fs (each j k fs b)))
    empty others ports groups
    (ap made_by (sym is_j) ∙ made ∙ ap made_by is_k)
