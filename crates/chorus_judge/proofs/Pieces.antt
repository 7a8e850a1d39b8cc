-- Pieces that are appended one behind another.
use Rattle.std.proofs.Common.{◌≡◌, List, ◌++◌, ◌∙◌, ap, append_assoc}

pub behind_piece : {A : Type 0} (s t piece more : List A) → s ≡ t ++ piece → s ++ more ≡ t ++ (piece ++ more)
behind_piece s t piece more h = ap (λ z. z ++ more) h ∙ append_assoc t piece more
