-- What a list of pairs keeps that a crew is given.
-- l is a layout.
use Rattle.std.proofs.Common.{◌≡◌, Bool, true, ◌&&◌, nat_le, List, [], ◌∷◌, length}
use Rattle.std.specs.List.{All, list_all}
use Rattle.std.proofs.lemmas.Bool.{and_parts, leb-true}
use Rattle.std.proofs.lemmas.List.Elements.{All-nil, All-cons}
use Rattle.chorus_ui.specs.declared.ui.Ui.{Ui}
use Rattle.chorus_ui.specs.declared.layout.Layout.{Layout}
use Rattle.chorus_ui.specs.Layout.{has_actor}
use Rattle.chorus_ui.specs.NameKind.{is_actor, is_port}
use Rattle.chorus_crew.specs.declared.pairs.TheConstants.{PAIRS_LIMIT}
use Rattle.chorus_crew.specs.Pairs.{is_pair, are_distinct, are_pairs}
use Rattle.chorus_crew.specs.Crews.{ArePairs}

all-true : {A : Type 0} (P : A → Bool) (Q : A → Type 0) (xs : List A) → ((x : A) → P x ≡ true → Q x) → list_all P xs ≡ true → All Q xs
all-true P Q [] each h = All-nil Q
all-true P Q (x ∷ xs) each h = let two = and_parts (P x) (list_all P xs) h in All-cons Q x xs (each x two.0) (all-true P Q xs each two.1)

pub pairs_are : (l : Layout) (pairs : List (Ui × Ui)) → are_pairs l pairs ≡ true → ArePairs l pairs
pairs_are l pairs h =
    let few = and_parts (nat_le (length pairs) PAIRS_LIMIT) (list_all (is_pair l) pairs && are_distinct pairs) h in
    let named = and_parts (list_all (is_pair l) pairs) (are_distinct pairs) few.1 in
    record {
      few = leb-true (length pairs) PAIRS_LIMIT few.0;
      ports = all-true (is_pair l) (λ (p : Ui × Ui). is_port p.0 ≡ true) pairs (λ p is. (and_parts (is_port p.0) (is_actor p.1 && has_actor l p.1) is).0) named.0;
      actors = all-true (is_pair l) (λ (p : Ui × Ui). (is_actor p.1 ≡ true) × (has_actor l p.1 ≡ true)) pairs
          (λ p is. and_parts (is_actor p.1) (has_actor l p.1) (and_parts (is_port p.0) (is_actor p.1 && has_actor l p.1) is).1) named.0;
    }
