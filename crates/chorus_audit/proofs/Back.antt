-- What is read of an entry's line is the entry.
use Rattle.std.proofs.Common.{rules, ◌≡◌, ◌≢◌, ℕ, Bool, true, false, if◌then◌else◌, Option, Some, None, option_map, unwrap_or, List, [], ◌∷◌, ◌++◌, refl, sym, ap, ◌∙◌, arith}
use Rattle.std.specs.Bool.{Decides}
use Rattle.std.specs.Str.{bytes_eq}
use Rattle.std.proofs.lemmas.Bool.{false≢true}
use Rattle.std.proofs.lemmas.List.{append_cancel_right}
use Rattle.std.proofs.lemmas.Slice.Eq.{bytes_eq-Decides}
use Rattle.chorus_entry.specs.declared.act.Act.{Act}
use Rattle.chorus_entry.specs.declared.entry.Entry.{Entry}
use Rattle.chorus_show.specs.Lines.{entry_text}
use Rattle.chorus_ui.specs.Decimals.{parse_decimal}
use Rattle.chorus_show.specs.Reading.{parts, first, second, third, rest, u16_in, u32_in, act_in, four, entry_of}
use Rattle.chorus_show.proofs.LineBack.{line, entry_back}
use Rattle.chorus_show.specs.Bounds.{has_room, IsWithin}
use Rattle.chorus_audit.specs.Calls.{held, entry_held}

some_same : (d e : Entry) → Some d ≡ Some e → d ≡ e
some_same d e h = ap (λ o. unwrap_or o d) h

held_room : (a : Act) → has_room a ≡ true → held (Some a) ≡ Some a
held_room a h = rw h refl

kept : (a b c : Option ℕ) (d : Option Act) (e : Entry) → option_map entry_of (four a b c d) ≡ Some e → has_room e.act ≡ true → option_map entry_of (four a b c (held d)) ≡ Some e
kept (Some a) (Some b) (Some c) (Some d) e read room =
    let same : entry_of (a, b, c, d) ≡ e = some_same (entry_of (a, b, c, d)) e read in
    ap (λ o. option_map entry_of (four (Some a) (Some b) (Some c) o)) (held_room d (ap (λ x. has_room x.act) same ∙ room)) ∙ read
kept (Some a) (Some b) (Some c) None e read room = read
kept (Some a) (Some b) None d e read room = read
kept (Some a) None c d e read room = read
kept None b c d e read room = read

pub held_back : (e : Entry) → IsWithin e → entry_held (parts 32 (line e)) ≡ Some e
held_back e h = kept _ _ _ _ e (entry_back e h.numbers) h.room

is_line : (e : Entry) (text : List ℕ) → entry_text e ≡ text ++ 10 ∷ [] → line e ≡ text
is_line e text h = append_cancel_right (line e) text (10 ∷ []) h

read_back : (text : List ℕ) (e : Entry) → IsWithin e → entry_text e ≡ text ++ 10 ∷ [] → entry_held (parts 32 text) ≡ Some e
read_back text e h is = ap (λ t. entry_held (parts 32 t)) (sym (is_line e text is)) ∙ held_back e h

none_some : (e : Entry) → None ≡ Some e → ⊥
none_some e h = grind arith

pub none_read : (text : List ℕ) → entry_held (parts 32 text) ≡ None → (e : Entry) → IsWithin e → entry_text e ≢ text ++ 10 ∷ []
none_read text none e h is = none_some e (sym none ∙ read_back text e h is)

pub none_printed : (text : List ℕ) (d : Entry) → entry_held (parts 32 text) ≡ Some d → entry_text d ≢ text ++ 10 ∷ [] → (e : Entry) → IsWithin e → entry_text e ≢ text ++ 10 ∷ []
none_printed text d read other e h is =
    let same : d ≡ e = some_same d e (sym read ∙ read_back text e h is) in
    other (ap entry_text same ∙ is)

-- what is read has room
room_if : (b : Bool) (a : Act) (d : Entry) (x y z : ℕ) → has_room a ≡ b → option_map entry_of (four (Some x) (Some y) (Some z) (if b then Some a else None)) ≡ Some d → has_room d.act ≡ true
room_if true a d x y z e read = let same : entry_of (x, y, z, a) ≡ d = some_same (entry_of (x, y, z, a)) d read in ap (λ o. has_room o.act) (sym same) ∙ e
room_if false a d x y z e read = absurd (none_some d read)

room_of : (a b c : Option ℕ) (o : Option Act) (d : Entry) → option_map entry_of (four a b c (held o)) ≡ Some d → has_room d.act ≡ true
room_of (Some a) (Some b) (Some c) (Some x) d read = room_if (has_room x) x d a b c refl read
room_of (Some a) (Some b) (Some c) None d read = absurd (none_some d read)
room_of (Some a) (Some b) None o d read = absurd (none_some d read)
room_of (Some a) None c o d read = absurd (none_some d read)
room_of None b c o d read = absurd (none_some d read)

pub has_room_read : (text : List ℕ) (d : Entry) → entry_held (parts 32 text) ≡ Some d → has_room d.act ≡ true
has_room_read text d read =
    let ws = parts 32 text in
    room_of (parse_decimal (first ws)) (u16_in (second ws)) (u32_in (third ws)) (act_in (rest (rest (rest ws)))) d read

pub not_equal : (s t : List ℕ) → false ≡ bytes_eq s t → s ≢ t
not_equal s t h e = false≢true (h ∙ (bytes_eq-Decides s t).1 e)

pub none_printed_by : (text : List ℕ) (d : Entry) → entry_held (parts 32 text) ≡ Some d → false ≡ bytes_eq (entry_text d) (text ++ 10 ∷ []) → (e : Entry) → IsWithin e → entry_text e ≢ text ++ 10 ∷ []
none_printed_by text d read other = none_printed text d read (not_equal (entry_text d) (text ++ 10 ∷ []) other)

is_bytes_eq : (xs ys : List ℕ) (r : Bool) → Decides r (xs ≡ ys) → r ≡ bytes_eq xs ys
is_bytes_eq xs ys r h = search (rules, bytes_eq-Decides)

-- a text that ends with LF is the line with it exactly where what stands before the LF is the line
pub same_line : (front line text : List ℕ) → text ≡ front ++ 10 ∷ [] → bytes_eq front line ≡ bytes_eq text (line ++ 10 ∷ [])
same_line front line text e = is_bytes_eq text (line ++ 10 ∷ []) (bytes_eq front line) (
  (λ same. e ∙ ap (λ t. t ++ 10 ∷ []) ((bytes_eq-Decides front line).0 same)),
  (λ same. (bytes_eq-Decides front line).1 (append_cancel_right front line (10 ∷ []) (sym e ∙ same))),
)
