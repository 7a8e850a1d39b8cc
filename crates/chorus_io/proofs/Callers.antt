-- What a caller of `read_all` and `write_all` cites: the whole input, and a text that is written in pieces.
use Rattle.std.proofs.Common.{◌≡◌, ℕ, List, [], ◌++◌, Option, None, Some, IfSome, ap, sym, subst, ◌∙◌, append_assoc}
use Rattle.std.specs.Io.KnownBytes.{Appends}
use Rattle.std.proofs.KnownBytes.{Appends-trans}
use Rattle.chorus_io.specs.Bytes.{AppendsPrefix}

-- what holds of the bytes that were read holds of the input
pub IfSome-whole : (left : Option (List ℕ)) (bytes : List ℕ) (P : List ℕ → Type 0) → IfSome left (λ input. bytes ≡ input) → P bytes → IfSome left P
IfSome-whole None bytes P whole holds = tt
IfSome-whole (Some input) bytes P whole holds = subst P whole holds

-- writing ended in the first piece
pub AppendsPrefix-first : (old new : Option (List ℕ)) (first rest : List ℕ) → AppendsPrefix old new first → AppendsPrefix old new (first ++ rest)
AppendsPrefix-first old new first rest part = record {
  sent = part.sent;
  unsent = part.unsent ++ rest;
  whole = ap (λ l. l ++ rest) part.whole ∙ append_assoc part.sent part.unsent rest;
  grown = part.grown;
}

-- the first piece was written, and writing ended behind it
pub AppendsPrefix-rest : (old mid new : Option (List ℕ)) (first rest : List ℕ)
    → Appends old mid first → AppendsPrefix mid new rest → AppendsPrefix old new (first ++ rest)
AppendsPrefix-rest old mid new first rest all part = record {
  sent = first ++ part.sent;
  unsent = part.unsent;
  whole = ap (λ l. first ++ l) part.whole ∙ sym (append_assoc first part.sent part.unsent);
  grown = Appends-trans old mid new first part.sent all part.grown;
}
