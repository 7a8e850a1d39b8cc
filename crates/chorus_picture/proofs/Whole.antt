-- What is drawn of an input is the picture of what is read of it.
use Rattle.std.proofs.Common.{◌≡◌, ℕ, ◌≤◌, List, ◌++◌, length, reverse, Option, None, Some, IfSome, sym, ap, ◌∙◌, subst, append-nil}
use Rattle.chorus_ui.specs.declared.layout.Layout.{Layout}
use Rattle.chorus_entry.specs.declared.entry.Entry.{Entry}
use Rattle.chorus_io.specs.Bytes.{IsReadWhole}
use Rattle.chorus_audit.specs.declared.judging.Audit.{Audit}
use Rattle.chorus_audit.specs.Tests.{IsRead}
use Rattle.picture_rows.specs.declared.limits.TheConstants.{ENTRIES_LIMIT}
use Rattle.chorus_picture.specs.Output.{IsDrawn}
use Rattle.chorus_picture.specs.Picture.{picture_text}

-- a source that was read to its end had what was read
pub whole-input : (limit : ℕ) (bytes : List ℕ) (old new : Option (List ℕ)) → IsReadWhole limit bytes old new → IfSome old (λ t. bytes ≡ t)
whole-input limit bytes None new h = tt
whole-input limit bytes (Some xs) None h = absurd h.0
whole-input limit bytes (Some xs) (Some ys) h = sym (h.0 ∙ ap (λ rest. bytes ++ rest) h.1 ∙ append-nil bytes)

pub is-drawn : (l : Layout) (input : Option (List ℕ)) (text seen drawn-of picture : List ℕ) (audit : Audit) (past es : List Entry) → IfSome input (λ t. text ≡ t)
    → seen ≡ text → drawn-of ≡ text → es ≡ reverse past → IsRead l seen audit (reverse past) → length es ≤ ENTRIES_LIMIT → picture ≡ picture_text l drawn-of es audit
    → IfSome input (λ t. IsDrawn l t picture)
is-drawn l input text seen drawn-of picture audit past es whole a b turned read few is = go input whole
  where
    here : IsDrawn l text picture
    here = record {
      entries = es;
      audit = audit;
      read = subst (IsRead l text audit) (sym turned) (subst (λ t. IsRead l t audit (reverse past)) a read);
      few = few;
      is = is ∙ ap (λ t. picture_text l t es audit) b;
    }

    go : (z : Option (List ℕ)) → IfSome z (λ t. text ≡ t) → IfSome z (λ t. IsDrawn l t picture)
    go None h = tt
    go (Some t) h = subst (λ u. IsDrawn l u picture) h here
