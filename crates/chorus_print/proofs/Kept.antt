-- What an error leaves: what stood there before, and maybe something behind it.
use Rattle.std.proofs.Common.{◌≡◌, ℕ, List, ◌++◌, length, take, drop, Result, Ok, Err, OnErr, sym, ap, ◌∙◌, append_assoc}
use Rattle.std.proofs.Math.Seq.{take-append_seam}
use Rattle.std.proofs.lemmas.List.{take-append-drop}

abbrev pub Keeps : List ℕ → List ℕ → Type 0
Keeps old new = take (length old) new ≡ old

pub kept_behind : (old more new : List ℕ) → new ≡ old ++ more → Keeps old new
kept_behind old more new appended = ap (take (length old)) appended ∙ take-append_seam old more

pub kept_through : (old mid new : List ℕ) → Keeps old mid → Keeps mid new → Keeps old new
kept_through old mid new first second =
    let more = drop (length old) mid in
    let behind = drop (length mid) new in
    let mid_is : mid ≡ old ++ more = sym (take-append-drop (length old) mid) ∙ ap (λ (front : List ℕ). front ++ more) first in
    let new_is : new ≡ old ++ (more ++ behind) = sym (take-append-drop (length mid) new) ∙ ap (λ (front : List ℕ). front ++ behind) (second ∙ mid_is) ∙ append_assoc old more behind in
    kept_behind old (more ++ behind) new new_is

-- what is kept after something was appended was kept before
pub kept_after : (old more mid new : List ℕ) → mid ≡ old ++ more → Keeps mid new → Keeps old new
kept_after old more mid new appended = kept_through old mid new (kept_behind old more mid appended)

pub on_err : {T E Q : Type 0} (r : Result T E) → Q → OnErr r Q
on_err (Ok x) q = tt
on_err (Err e) q = q
