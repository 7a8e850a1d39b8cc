-- Lemmas on beginnings of lists.
use Rattle.std.proofs.Common.{◌≡◌, List, [], ◌++◌, sym, ap, ◌∙◌, append_assoc}
use Rattle.std.proofs.lemmas.List.{append-nil}
use Rattle.chorus_link.specs.Lists.{StartsWith}

module _ {P : Type 0} where
  -- a list begins with itself
  pub starts_whole : (all first : List P) → all ≡ first → StartsWith all first
  starts_whole all first same = ([], same ∙ sym (append-nil first))

  -- what a list begins with stays when more is put behind it
  pub starts_longer : (all first more : List P) → StartsWith all first → StartsWith (all ++ more) first
  starts_longer all first more begins = (begins.0 ++ more, ap (λ l. l ++ more) begins.1 ∙ append_assoc first begins.0 more)
