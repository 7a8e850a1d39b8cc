-- Names, ids, tags and messages both ways.
use Rattle.std.proofs.Common.{◌≡◌, ℕ, zero, suc, ◌^◌, ◌<◌, ◌≤◌, Bool, true, false, ◌&&◌, cond, ◌==◌, nat_le, if◌then◌else◌, Option, Some, None, List, ◌++◌, length, Ok, refl, sym, ap, subst, ◌∙◌, arith}
use Rattle.std.proofs.lemmas.Bool.{and_parts, eqb-true, ne_eqb}
use Rattle.std.proofs.lemmas.Bool.Decides.{nat_tests}
use Rattle.chorus_ui.specs.declared.ui.Ui.{Ui}
use Rattle.chorus_ui.specs.declared.kind.Kind.{Kind}
use Rattle.chorus_ui.specs.declared.kind.Kind.TheVariants as K
use Rattle.chorus_ui.specs.declared.limits.TheConstants.{SITES_LIMIT, BODY_LIMIT, MEMBERS_LIMIT}
use Rattle.chorus_ui.specs.Kind.{same_kind, kind_number, kind_with_number}
use Rattle.chorus_ui.specs.Name.{IsName, is_name, name_of_parts}
use Rattle.chorus_ui.specs.Bits.{name_bits, name_of_bits, site_bits, kind_bits, number_bits}
use Rattle.chorus_ui.proofs.Names.{from_is_name}
use Rattle.chorus_ui.proofs.Bits.{name_of_bits-name_bits}
use Rattle.chorus_entry.specs.declared.id.MsgId.{MsgId}
use Rattle.chorus_entry.specs.declared.tag.Tag.{Tag}
use Rattle.chorus_entry.specs.declared.tag.Tag.TheVariants.{Plain, Request, Reply}
use Rattle.chorus_entry.specs.declared.message.Message.{Message}
use Rattle.chorus_entry.specs.Kinds.{has_kinds_in_tag}
use Rattle.chorus_entry.specs.Ranges.{is_route, is_demanded_site, has_range_of_id, has_range_of_tag, has_ranges_of_message}
use Rattle.chorus_frame.specs.Fault.{Range}
use Rattle.chorus_frame.specs.Fault as faults
use Rattle.chorus_frame.specs.Numbers.{number, bytes_at, ranged_at}
use Rattle.chorus_frame.specs.Laws.{AreBytes}
use Rattle.chorus_frame.specs.Spelling.{name_field, route_field, only_field, id_fields, request_fields, reply_fields, tag_fields, body_fields, message_fields}
use Rattle.chorus_frame.specs.Reading.{code_at, named, name_at, route_named, route_at, only_at, id_at, request_at, reply_at, tag_of, tag_at, body_at, message_at}
use Rattle.chorus_frame.specs.Held.{IsHeldId, IsHeldTag, IsHeldMessage, IsHeldRoute}
use Rattle.chorus_frame.proofs.Numbers.{test_ok, bind_ok, ok_is, number-again, bytes-takes, bytes-again}
use Rattle.chorus_frame.proofs.Formats.{Taken, IsFormat, step, join, IsTested, number_format, tested_format, assoc2, assoc3, from_nat_le, both}

-- ---- names

some_ok : (b : Bool) (u v : Ui) → cond b (Some u) None ≡ Some v → (b ≡ true) × (u ≡ v)
some_ok true u v e = (refl, cc)
some_ok false u v e = absurd cc

kind_number-with : (m : ℕ) (k : Kind) → kind_with_number m ≡ Some k → kind_number k ≡ m
kind_number-with zero k e = absurd cc
kind_number-with (suc zero) k e = let same : K.Actor ≡ k = cc in ap kind_number (sym same)
kind_number-with (suc (suc zero)) k e = let same : K.Port ≡ k = cc in ap kind_number (sym same)
kind_number-with (suc (suc (suc zero))) k e = let same : K.Group ≡ k = cc in ap kind_number (sym same)
kind_number-with (suc (suc (suc (suc m)))) k e =
    let n = suc (suc (suc (suc m))) in
    let none : kind_with_number n ≡ None = rw (ne_eqb n 1 (λ h. absurd (omega arith)), ne_eqb n 2 (λ h. absurd (omega arith)), ne_eqb n 3 (λ h. absurd (omega arith))) refl in
    absurd (cc)

parts_of : (s m : ℕ) (k : Option Kind) (u : Ui) → name_of_parts (Some s) k (Some m) ≡ Some u → (k ≡ Some u.kind) × (u.site ≡ s) × (u.number ≡ m) × IsName u
parts_of s m None u e = absurd cc
parts_of s m (Some k) u e =
    let made : Ui = record { site = s; kind = k; number = m } in
    let t = some_ok (is_name made) made u e in
    subst (λ (v : Ui). (Some k ≡ Some v.kind) × (v.site ≡ s) × (v.number ≡ m) × IsName v) t.1 (refl, refl, refl, from_is_name made t.0)

-- the name in 64 bits has these bits
bits_of : (n : ℕ) (u : Ui) → n < 256 ^ 8 → name_of_bits n ≡ Some u → (name_bits u ≡ n) × IsName u
bits_of n u lt e =
    let p = parts_of (site_bits n) (number_bits n) (kind_with_number (kind_bits n)) u e in
    let k : kind_number u.kind ≡ kind_bits n = kind_number-with (kind_bits n) u.kind p.0 in
    let s : u.site ≡ site_bits n = p.1 in
    let m : u.number ≡ number_bits n = p.2 in
    (rw (s, k, m) (omega arith), p.3)

kind_number-fits : (k : Kind) → kind_number k ≤ 3
kind_number-fits K.Actor = omega arith
kind_number-fits K.Port = omega arith
kind_number-fits K.Group = omega arith

name_bits-fits : (u : Ui) → IsName u → name_bits u < 256 ^ 8
name_bits-fits u h = let k = kind_number-fits u.kind in omega arith

named_ok : (kind : Kind) (found : Option Ui) (left : List ℕ) (u : Ui) (rest : List ℕ) → named kind found left ≡ Ok (u, rest) → (found ≡ Some u) × (same_kind u.kind kind ≡ true) × (left ≡ rest)
named_ok kind None left u rest e = absurd cc
named_ok kind (Some ui) left u rest e =
    let t = test_ok (same_kind ui.kind kind) Range (ui, left) (u, rest) e in
    subst (λ (p : Ui × List ℕ). (Some ui ≡ Some p.0) × (same_kind p.0.kind kind ≡ true) × (left ≡ p.1)) t.1 (refl, t.0, refl)

abbrev pub IsNameOf : Kind → Ui → Type 0
IsNameOf kind u = IsName u × (same_kind u.kind kind ≡ true)

name-takes : (kind : Kind) (bytes : List ℕ) (x : Ui) (rest : List ℕ) → AreBytes bytes → name_at kind bytes ≡ Ok (x, rest) → Taken bytes (name_field x) rest × IsNameOf kind x
unfolding name_at
name-takes kind bytes x rest are e =
    let s = step (number_format 8) (λ n. named kind (name_of_bits n.0) n.1) bytes (x, rest) are e in
    let t = named_ok kind (name_of_bits s.value) s.rest x rest s.on in
    let b = bits_of s.value x s.fit t.0 in
    (subst (λ (r : List ℕ). Taken bytes (name_field x) r) t.2 (subst (λ (n : ℕ). Taken bytes (number 8 n) s.rest) (sym b.0) s.taken), (b.1, t.1))

name-again : (kind : Kind) (x : Ui) (rest : List ℕ) → IsNameOf kind x → name_at kind (name_field x ++ rest) ≡ Ok (x, rest)
unfolding name_at
name-again kind x rest fit =
    rw (number-again 8 (name_bits x) rest (name_bits-fits x fit.0), name_of_bits-name_bits x fit.0, fit.1) refl

pub name_format : (kind : Kind) → IsFormat Ui (IsNameOf kind) name_field (name_at kind)
name_format kind = record { takes = name-takes kind; again = name-again kind }

-- ---- routes and demanded sites

abbrev pub IsGoodRoute : Option Ui → Type 0
IsGoodRoute route = IsHeldRoute route × (is_route route ≡ true)

route-on : (b : Bool) (n : ℕ) (left : List ℕ) (x : Option Ui) (rest : List ℕ) → (n == 0) ≡ b → n < 256 ^ 8 → cond b (Ok (None, left)) (route_named (n, left)) ≡ Ok (x, rest) → (number 8 n ≡ route_field x) × (left ≡ rest) × IsGoodRoute x
route-on true n left x rest is lt e =
    let made : Option Ui × List ℕ = (None, left) in
    subst (λ (p : Option Ui × List ℕ). (number 8 n ≡ route_field p.0) × (left ≡ p.1) × IsGoodRoute p.0) (ok_is made (x, rest) e) (ap (number 8) (eqb-true n 0 is), refl, (tt, refl))
route-on false n left x rest is lt e =
    let b = bind_ok (named K.Group (name_of_bits n) left) (λ group. Ok (Some group.0, group.1)) (x, rest) e in
    let t = named_ok K.Group (name_of_bits n) left b.0.0 b.0.1 b.1 in
    let bits = bits_of n b.0.0 lt t.0 in
    let made : Option Ui × List ℕ = (Some b.0.0, b.0.1) in
    subst (λ (p : Option Ui × List ℕ). (number 8 n ≡ route_field p.0) × (left ≡ p.1) × IsGoodRoute p.0) (ok_is made (x, rest) b.2) (ap (number 8) (sym bits.0), t.2, (bits.1, t.1))

route-takes : (bytes : List ℕ) (x : Option Ui) (rest : List ℕ) → AreBytes bytes → route_at bytes ≡ Ok (x, rest) → Taken bytes (route_field x) rest × IsGoodRoute x
unfolding route_at
route-takes bytes x rest are e =
    let s = step (number_format 8) (λ n. if n.0 == 0 then Ok (None, n.1) else route_named n) bytes (x, rest) are e in
    let t = route-on (s.value == 0) s.value s.rest x rest refl s.fit s.on in
    (subst (λ (p : List ℕ × List ℕ). Taken bytes p.0 p.1) (λ i. (t.0 i, t.1 i)) s.taken, t.2)

route-again : (x : Option Ui) (rest : List ℕ) → IsGoodRoute x → route_at (route_field x ++ rest) ≡ Ok (x, rest)
unfolding route_at
route-again None rest fit = rw (number-again 8 0 rest (omega arith)) refl
route-again (Some u) rest fit =
    let h : IsName u = fit.0 in
    let other : (name_bits u == 0) ≡ false = ne_eqb (name_bits u) 0 (λ e. absurd (omega arith)) in
    rw (number-again 8 (name_bits u) rest (name_bits-fits u h), other, name_of_bits-name_bits u h, fit.1) refl

pub route_format : IsFormat (Option Ui) IsGoodRoute route_field route_at
route_format = record { takes = route-takes; again = route-again }

abbrev only_of : ℕ → Option ℕ
only_of n = if n == 0 then None else Some n

only-is : (b : Bool) (n : ℕ) → (n == 0) ≡ b → nat_le n SITES_LIMIT ≡ true → (number 2 n ≡ only_field (cond b None (Some n))) × (is_demanded_site (cond b None (Some n)) ≡ true)
only-is true n is top = (ap (number 2) (eqb-true n 0 is), refl)
only-is false n is top = (refl, grind (arith, nat_tests))

only-takes : (bytes : List ℕ) (x : Option ℕ) (rest : List ℕ) → AreBytes bytes → only_at bytes ≡ Ok (x, rest) → Taken bytes (only_field x) rest × (is_demanded_site x ≡ true)
unfolding only_at
only-takes bytes x rest are e =
    let s = step (tested_format 2 (λ n. nat_le n SITES_LIMIT) Range) (λ n. Ok (only_of n.0, n.1)) bytes (x, rest) are e in
    let t = only-is (s.value == 0) s.value refl s.fit.1 in
    let made : Option ℕ × List ℕ = (only_of s.value, s.rest) in
    subst (λ (p : Option ℕ × List ℕ). Taken bytes (only_field p.0) p.1 × (is_demanded_site p.0 ≡ true)) (ok_is made (x, rest) s.on) (subst (λ (text : List ℕ). Taken bytes text s.rest) t.0 s.taken, t.1)

only-again : (x : Option ℕ) (rest : List ℕ) → is_demanded_site x ≡ true → only_at (only_field x ++ rest) ≡ Ok (x, rest)
unfolding only_at
only-again None rest fit = rw ((tested_format 2 (λ n. nat_le n SITES_LIMIT) Range).again 0 rest (omega arith, refl)) refl
only-again (Some n) rest fit =
    let p = and_parts (nat_le 1 n) (nat_le n SITES_LIMIT) fit in
    let low = from_nat_le 1 n p.0 in
    let high = from_nat_le n SITES_LIMIT p.1 in
    let other : (n == 0) ≡ false = ne_eqb n 0 (λ e. absurd (omega arith)) in
    rw ((tested_format 2 (λ n. nat_le n SITES_LIMIT) Range).again n rest (omega arith, p.1), other) refl

pub only_format : IsFormat (Option ℕ) (λ x. is_demanded_site x ≡ true) only_field only_at
only_format = record { takes = only-takes; again = only-again }

-- ---- ids

abbrev pub IsGoodId : MsgId → Type 0
IsGoodId id = IsHeldId id × (has_range_of_id id ≡ true)

abbrev positive : IsFormat ℕ (IsTested 4 (nat_le 1)) (number 4) (ranged_at 4 (nat_le 1))
positive = tested_format 4 (nat_le 1) Range

id-takes : (bytes : List ℕ) (x : MsgId) (rest : List ℕ) → AreBytes bytes → id_at bytes ≡ Ok (x, rest) → Taken bytes (id_fields x) rest × IsGoodId x
unfolding id_at
id-takes bytes x rest are e =
    let a = step (number_format 4) _ bytes (x, rest) are e in
    let b = step positive _ a.rest (x, rest) a.taken.rest_bytes a.on in
    let c = step (tested_format 2 (λ n. nat_le n MEMBERS_LIMIT) Range) _ b.rest (x, rest) b.taken.rest_bytes b.on in
    let made : MsgId × List ℕ = (record { seat = a.value; number = b.value; copy = c.value }, c.rest) in
    subst (λ (p : MsgId × List ℕ). Taken bytes (id_fields p.0) p.1 × IsGoodId p.0) (ok_is made (x, rest) c.on) (join (join a.taken b.taken) c.taken, ((a.fit, b.fit.0), both _ _ b.fit.1 c.fit.1))

id-again : (x : MsgId) (rest : List ℕ) → IsGoodId x → id_at (id_fields x ++ rest) ≡ Ok (x, rest)
unfolding id_at
id-again x rest fit =
    let p = and_parts (nat_le 1 x.number) (nat_le x.copy MEMBERS_LIMIT) fit.1 in
    let high = from_nat_le x.copy MEMBERS_LIMIT p.1 in
    ap id_at (assoc3 (number 4 x.seat) (number 4 x.number) (number 2 x.copy) rest)
    ∙ rw (number-again 4 x.seat (number 4 x.number ++ (number 2 x.copy ++ rest)) fit.0.0, positive.again x.number (number 2 x.copy ++ rest) (fit.0.1, p.0), (tested_format 2 (λ n. nat_le n MEMBERS_LIMIT) Range).again x.copy rest (omega arith, p.1)) refl

pub id_format : IsFormat MsgId IsGoodId id_fields id_at
id_format = record { takes = id-takes; again = id-again }

-- ---- tags

abbrev pub IsGoodTag : Tag → Type 0
IsGoodTag tag = IsHeldTag tag × (has_range_of_tag tag ≡ true) × (has_kinds_in_tag tag ≡ true)

request-takes : (bytes left : List ℕ) (x : Tag) (rest : List ℕ) → Taken bytes (number 1 1) left → request_at left ≡ Ok (x, rest) → Taken bytes (tag_fields x) rest × IsGoodTag x
unfolding request_at
request-takes bytes left x rest code e =
    let a = step positive _ left (x, rest) code.rest_bytes e in
    let b = step (name_format K.Port) _ a.rest (x, rest) a.taken.rest_bytes a.on in
    let made : Tag × List ℕ = (Request a.value b.value, b.rest) in
    subst (λ (p : Tag × List ℕ). Taken bytes (tag_fields p.0) p.1 × IsGoodTag p.0) (ok_is made (x, rest) b.on) (join code (join a.taken b.taken), ((a.fit.0, b.fit.0), a.fit.1, b.fit.1))

reply-takes : (bytes left : List ℕ) (x : Tag) (rest : List ℕ) → Taken bytes (number 1 2) left → reply_at left ≡ Ok (x, rest) → Taken bytes (tag_fields x) rest × IsGoodTag x
unfolding reply_at
reply-takes bytes left x rest code e =
    let a = step (number_format 4) _ left (x, rest) code.rest_bytes e in
    let b = step positive _ a.rest (x, rest) a.taken.rest_bytes a.on in
    let made : Tag × List ℕ = (Reply a.value b.value, b.rest) in
    subst (λ (p : Tag × List ℕ). Taken bytes (tag_fields p.0) p.1 × IsGoodTag p.0) (ok_is made (x, rest) b.on) (join code (join a.taken b.taken), ((a.fit, b.fit.0), b.fit.1, refl))

tag-on : (n : ℕ) (bytes left : List ℕ) (x : Tag) (rest : List ℕ) → n ≤ 2 → Taken bytes (number 1 n) left → tag_of (n, left) ≡ Ok (x, rest) → Taken bytes (tag_fields x) rest × IsGoodTag x
tag-on zero bytes left x rest top code e =
    let made : Tag × List ℕ = (Plain, left) in
    subst (λ (p : Tag × List ℕ). Taken bytes (tag_fields p.0) p.1 × IsGoodTag p.0) (ok_is made (x, rest) e) (code, (tt, refl, refl))
tag-on (suc zero) bytes left x rest top code e = request-takes bytes left x rest code e
tag-on (suc (suc zero)) bytes left x rest top code e = reply-takes bytes left x rest code e
tag-on (suc (suc (suc n))) bytes left x rest top code e = absurd (omega arith)

tag-takes : (bytes : List ℕ) (x : Tag) (rest : List ℕ) → AreBytes bytes → tag_at bytes ≡ Ok (x, rest) → Taken bytes (tag_fields x) rest × IsGoodTag x
unfolding tag_at
tag-takes bytes x rest are e =
    let s = step (tested_format 1 (λ c. nat_le c 2) faults.Kind) tag_of bytes (x, rest) are e in
    tag-on s.value bytes s.rest x rest (from_nat_le s.value 2 s.fit.1) s.taken s.on

abbrev tag_code : IsFormat ℕ (IsTested 1 (λ c. nat_le c 2)) (number 1) (code_at (λ c. nat_le c 2))
tag_code = tested_format 1 (λ c. nat_le c 2) faults.Kind

tag-again : (x : Tag) (rest : List ℕ) → IsGoodTag x → tag_at (tag_fields x ++ rest) ≡ Ok (x, rest)
unfolding tag_at request_at reply_at
tag-again Plain rest fit = rw (tag_code.again 0 rest (omega arith, refl)) refl
tag-again (Request call back) rest fit =
    ap tag_at (assoc2 (number 1 1) (request_fields call back) rest)
    ∙ rw (tag_code.again 1 (request_fields call back ++ rest) (omega arith, refl))
    (ap request_at (assoc2 (number 4 call) (name_field back) rest)
    ∙ rw (positive.again call (name_field back ++ rest) (fit.0.0, fit.1), name-again K.Port back rest (fit.0.1, fit.2)) refl)
tag-again (Reply client call) rest fit =
    ap tag_at (assoc2 (number 1 2) (reply_fields client call) rest)
    ∙ rw (tag_code.again 2 (reply_fields client call ++ rest) (omega arith, refl))
    (ap reply_at (assoc2 (number 4 client) (number 4 call) rest)
    ∙ rw (number-again 4 client (number 4 call ++ rest) fit.0.0, positive.again call rest (fit.0.1, fit.1)) refl)

pub tag_format : IsFormat Tag IsGoodTag tag_fields tag_at
tag_format = record { takes = tag-takes; again = tag-again }

-- ---- bodies

abbrev pub IsGoodBody : List ℕ → Type 0
IsGoodBody body = nat_le (length body) BODY_LIMIT ≡ true

abbrev body_len : IsFormat ℕ (IsTested 2 (λ n. nat_le n BODY_LIMIT)) (number 2) (ranged_at 2 (λ n. nat_le n BODY_LIMIT))
body_len = tested_format 2 (λ n. nat_le n BODY_LIMIT) Range

body-takes : (bytes : List ℕ) (x : List ℕ) (rest : List ℕ) → AreBytes bytes → body_at bytes ≡ Ok (x, rest) → Taken bytes (body_fields x) rest × IsGoodBody x
unfolding body_at
body-takes bytes x rest are e =
    let a = step body_len (λ len. bytes_at len.0 len.1) bytes (x, rest) are e in
    let t = bytes-takes a.value a.rest x rest a.taken.rest_bytes a.on in
    let text : Taken a.rest x rest = record { parts = t.0; rest_bytes = t.1 } in
    subst (λ (n : ℕ). Taken bytes (number 2 n ++ x) rest × (nat_le n BODY_LIMIT ≡ true)) (sym t.2) (join a.taken text, a.fit.1)

body-again : (x rest : List ℕ) → IsGoodBody x → body_at (body_fields x ++ rest) ≡ Ok (x, rest)
unfolding body_at
body-again x rest fit =
    let top = from_nat_le (length x) BODY_LIMIT fit in
    ap body_at (assoc2 (number 2 (length x)) x rest)
    ∙ rw (body_len.again (length x) (x ++ rest) (omega arith, fit)) (bytes-again x rest)

pub body_format : IsFormat (List ℕ) IsGoodBody body_fields body_at
body_format = record { takes = body-takes; again = body-again }

-- ---- messages

abbrev pub IsGoodMessage : Message → Type 0
IsGoodMessage m = IsHeldMessage m × (has_ranges_of_message m ≡ true)

message-takes : (bytes : List ℕ) (x : Message) (rest : List ℕ) → AreBytes bytes → message_at bytes ≡ Ok (x, rest) → Taken bytes (message_fields x) rest × IsGoodMessage x
unfolding message_at
message-takes bytes x rest are e =
    let a = step id_format _ bytes (x, rest) are e in
    let b = step tag_format _ a.rest (x, rest) a.taken.rest_bytes a.on in
    let c = step body_format _ b.rest (x, rest) b.taken.rest_bytes b.on in
    let made : Message × List ℕ = (record { id = a.value; tag = b.value; body = c.value }, c.rest) in
    subst (λ (p : Message × List ℕ). Taken bytes (message_fields p.0) p.1 × IsGoodMessage p.0) (ok_is made (x, rest) c.on) (join (join a.taken b.taken) c.taken, ((a.fit.0, b.fit.0), both _ _ (both _ _ (both _ _ a.fit.1 b.fit.1) b.fit.2) c.fit))

-- what the ranges say of a message, part by part
pub record MessageParts (m : Message) : Type 0 where
  pub id : IsGoodId m.id
  pub tag : IsGoodTag m.tag
  pub body : IsGoodBody m.body

message_parts : (m : Message) → IsGoodMessage m → MessageParts m
message_parts m fit =
    let a = and_parts (has_range_of_id m.id && has_range_of_tag m.tag && has_kinds_in_tag m.tag) (nat_le (length m.body) BODY_LIMIT) fit.1 in
    let b = and_parts (has_range_of_id m.id && has_range_of_tag m.tag) (has_kinds_in_tag m.tag) a.0 in
    let c = and_parts (has_range_of_id m.id) (has_range_of_tag m.tag) b.0 in
    record { id = (fit.0.0, c.0); tag = (fit.0.1, c.1, b.1); body = a.1 }

message-again : (x : Message) (rest : List ℕ) → IsGoodMessage x → message_at (message_fields x ++ rest) ≡ Ok (x, rest)
unfolding message_at
message-again x rest fit =
    let p = message_parts x fit in
    ap message_at (assoc3 (id_fields x.id) (tag_fields x.tag) (body_fields x.body) rest)
    ∙ rw (id-again x.id (tag_fields x.tag ++ (body_fields x.body ++ rest)) p.id, tag-again x.tag (body_fields x.body ++ rest) p.tag, body-again x.body rest p.body) refl

pub message_format : IsFormat Message IsGoodMessage message_fields message_at
message_format = record { takes = message-takes; again = message-again }
