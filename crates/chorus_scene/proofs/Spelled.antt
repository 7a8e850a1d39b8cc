-- A field that was read is the one spelling of what it says, and what is printed is cut into the same lines and fields.
use Rattle.std.proofs.Common.{◌≡◌, ℕ, zero, suc, ◌+◌, ◌≤◌, Bool, true, false, not, ◌&&◌, cond, eqb, List, [], ◌∷◌, ◌++◌, length, Option, Some, None, IfSome, refl, sym, ap, ◌∙◌, arith, subst, length-append}
use Rattle.std.proofs.lemmas.Bool.Decides.{nat_tests}
use Rattle.std.proofs.lemmas.List.{append-nil}
use Rattle.chorus_ui.specs.declared.kind.Kind.{Kind}
use Rattle.chorus_ui.specs.Kind.{same_kind}
use Rattle.chorus_ui.specs.declared.ui.Ui.{Ui}
use Rattle.chorus_ui.specs.Text.{name_text, parse_name}
use Rattle.chorus_ui.proofs.Texts.{parse_name_some}
use Rattle.chorus_lines.specs.Text.{cut, fields, lines, in_front, each_byte}
use Rattle.chorus_scene.specs.Line.{if_of_kind, name_in}
use Rattle.chorus_scene.specs.Print.{behind, joined}

-- none of the bytes is this one
abbrev pub lacks : ℕ → ℕ → Bool
lacks mark c = not (eqb c mark)

pub both : (a b : Bool) → (a && b) ≡ true → (a ≡ true) × (b ≡ true)
both true b h = (refl, h)
both false b h = absurd cc

no_mark : (mark c : ℕ) → lacks mark c ≡ true → eqb c mark ≡ false
no_mark mark c h = grind (arith, nat_tests)

pub cut_join : (mark : ℕ) (front rest : List ℕ) → each_byte (lacks mark) front ≡ true → cut mark (front ++ mark ∷ rest) ≡ (front, Some rest)
unfolding cut each_byte
cut_join mark [] rest h = let e : eqb mark mark ≡ true = grind (arith, nat_tests) in rw e refl
cut_join mark (c ∷ cs) rest h =
    let p = both (lacks mark c) (each_byte (lacks mark) cs) h in
    let e = no_mark mark c p.0 in
    rw (e, cut_join mark cs rest p.1) refl

pub cut_all : (mark : ℕ) (text : List ℕ) → each_byte (lacks mark) text ≡ true → cut mark text ≡ (text, None)
unfolding cut each_byte
cut_all mark [] h = refl
cut_all mark (c ∷ cs) h =
    let p = both (lacks mark c) (each_byte (lacks mark) cs) h in
    let e = no_mark mark c p.0 in
    rw (e, cut_all mark cs p.1) refl

-- the mark and what stands behind it
abbrev pub marked : ℕ → Option (List ℕ) → List ℕ
marked mark None = []
marked mark (Some rest) = mark ∷ rest

uncut_by : (mark c : ℕ) (cs : List ℕ) (b : Bool) → eqb c mark ≡ b → cs ≡ (cut mark cs).0 ++ marked mark (cut mark cs).1 → c ∷ cs ≡ (cut mark (c ∷ cs)).0 ++ marked mark (cut mark (c ∷ cs)).1
unfolding cut
uncut_by mark c cs true e h = let same : c ≡ mark = grind (arith, nat_tests) in rw e (ap (λ x. x ∷ cs) same)
uncut_by mark c cs false e h = rw e (ap (λ rest. c ∷ rest) h)

-- a text is what it was cut into
pub uncut : (mark : ℕ) (text : List ℕ) → text ≡ (cut mark text).0 ++ marked mark (cut mark text).1
unfolding cut
uncut mark [] = refl
uncut mark (c ∷ cs) = uncut_by mark c cs (eqb c mark) refl (uncut mark cs)

cut_lacks_by : (mark c : ℕ) (cs : List ℕ) (b : Bool) → eqb c mark ≡ b → each_byte (lacks mark) (cut mark cs).0 ≡ true → each_byte (lacks mark) (cut mark (c ∷ cs)).0 ≡ true
unfolding cut each_byte
cut_lacks_by mark c cs true e h = rw e refl
cut_lacks_by mark c cs false e h = rw (e, e) h

pub cut_lacks : (mark : ℕ) (text : List ℕ) → each_byte (lacks mark) (cut mark text).0 ≡ true
unfolding cut each_byte
cut_lacks mark [] = refl
cut_lacks mark (c ∷ cs) = cut_lacks_by mark c cs (eqb c mark) refl (cut_lacks mark cs)

-- the fields behind a word are all that stands there
pub behind_fields : (n : ℕ) (rest : Option (List ℕ)) → behind (fields n rest) ≡ marked 32 rest
behind_fields n None = refl
behind_fields zero (Some text) = ap (λ t. 32 ∷ t) (append-nil text)
behind_fields (suc n) (Some text) = ap (λ t. 32 ∷ t) (ap (λ t. (cut 32 text).0 ++ t) (behind_fields n (cut 32 text).1) ∙ sym (uncut 32 text))

-- lines
line_front : (line rest : List ℕ) → each_byte (lacks 10) line ≡ true → lines (line ++ 10 ∷ rest) ≡ line ∷ lines rest
unfolding lines each_byte
line_front [] rest h = refl
line_front (c ∷ cs) rest h =
    let p = both (lacks 10 c) (each_byte (lacks 10) cs) h in
    let e = no_mark 10 c p.0 in
    rw (e, line_front cs rest p.1) refl

last_line : (c : ℕ) (cs : List ℕ) → each_byte (lacks 10) (c ∷ cs) ≡ true → lines (c ∷ cs) ≡ (c ∷ cs) ∷ []
unfolding lines each_byte
last_line c [] h = let p = both (lacks 10 c) true h in let e = no_mark 10 c p.0 in rw e refl
last_line c (d ∷ cs) h =
    let p = both (lacks 10 c) (each_byte (lacks 10) (d ∷ cs)) h in
    let e = no_mark 10 c p.0 in
    rw e (ap (in_front c) (last_line d cs p.1))

abbrev pub is_line : List ℕ → Bool
is_line [] = false
is_line (c ∷ cs) = each_byte (lacks 10) (c ∷ cs)

abbrev pub are_lines : List (List ℕ) → Bool
are_lines [] = true
are_lines (line ∷ lines) = is_line line && are_lines lines

line_lacks : (line : List ℕ) → is_line line ≡ true → each_byte (lacks 10) line ≡ true
line_lacks [] h = absurd cc
line_lacks (c ∷ cs) h = h

pub lines_joined : (ls : List (List ℕ)) → are_lines ls ≡ true → lines (joined ls) ≡ ls
unfolding joined lines
lines_joined [] h = refl
lines_joined ([] ∷ []) h = absurd cc
lines_joined ((c ∷ cs) ∷ []) h = last_line c cs (both (is_line (c ∷ cs)) true h).0
lines_joined (line ∷ second ∷ ls) h =
    let p = both (is_line line) (are_lines (second ∷ ls)) h in
    line_front line (joined (second ∷ ls)) (line_lacks line p.0) ∙ ap (λ rest. line ∷ rest) (lines_joined (second ∷ ls) p.1)

-- the bytes of lines, with one for the end of each
abbrev pub total : List (List ℕ) → ℕ
total [] = 0
total (line ∷ lines) = length line + 1 + total lines

pub total-append : (xs ys : List (List ℕ)) → total (xs ++ ys) ≡ total xs + total ys
total-append [] ys = omega arith
total-append (x ∷ xs) ys = let h = total-append xs ys in omega arith

total_front : (c : ℕ) (ls : List (List ℕ)) (n : ℕ) → total ls ≤ n + 1 → total (in_front c ls) ≤ n + 2
total_front c [] n h = omega arith
total_front c (l ∷ ls) n h = omega arith

total_lines_by : (c : ℕ) (cs : List ℕ) (b : Bool) → eqb c 10 ≡ b → total (lines cs) ≤ length cs + 1 → total (lines (c ∷ cs)) ≤ length (c ∷ cs) + 1
unfolding lines
total_lines_by c cs true e h = rw e (omega arith)
total_lines_by c cs false e h = let k = total_front c (lines cs) (length cs) h in rw e (omega arith)

pub total_lines : (text : List ℕ) → total (lines text) ≤ length text + 1
unfolding lines
total_lines [] = omega arith
total_lines (c ∷ cs) = total_lines_by c cs (eqb c 10) refl (total_lines cs)

pub length_joined : (line : List ℕ) (ls : List (List ℕ)) → length (joined (line ∷ ls)) + 1 ≡ total (line ∷ ls)
unfolding joined
length_joined line [] = omega arith
length_joined line (second ∷ ls) = let h = length_joined second ls in let e = length-append line (10 ∷ joined (second ∷ ls)) in omega arith

-- names
kind_by : (b : Bool) (v u : Ui) → cond b (Some v) None ≡ Some u → v ≡ u
kind_by true v u h = cc
kind_by false v u h = absurd cc

inv_kind : (k : Kind) (o : Option Ui) (u : Ui) → if_of_kind k o ≡ Some u → o ≡ Some u
inv_kind k None u h = absurd cc
inv_kind k (Some v) u h = ap Some (kind_by (same_kind v.kind k) v u h)

-- a name is spelled in one way
pub spelled_name : (k : Kind) (text : List ℕ) (u : Ui) → name_in k text ≡ Some u → name_text u ≡ text
spelled_name k text u h = subst (λ (o : Option Ui). IfSome o (λ v. name_text v ≡ text)) (inv_kind k (parse_name text) u h) (parse_name_some text)
