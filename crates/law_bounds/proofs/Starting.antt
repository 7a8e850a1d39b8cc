-- A place on which nothing happened yet.
use Rattle.std.proofs.Common.{ℕ, ◌≡◌, true, arith}
use Rattle.std.proofs.lemmas.List.Elements.{All-nil}
use Rattle.chorus_ui.specs.declared.ui.Ui.{Ui}
use Rattle.chorus_ui.specs.declared.layout.Layout.{Layout}
use Rattle.chorus_ui.specs.Layout.{IsLayout, has_place}
use Rattle.chorus_ui.specs.NameKind.{is_port}
use Rattle.law_machine.specs.PlaceState.{started}
use Rattle.law_bounds.specs.Bounds.{IsPortWithin, IsWaitWithin, IsWithin}
use Rattle.law_bounds.proofs.Ranges.{place-within}

pub start-within : (l : Layout) (p : ℕ) → IsLayout l → has_place l p ≡ true → IsWithin (started l p)
start-within l p shape place =
    record {
      layout = shape;
      number = place-within l p shape place;
      ports = All-nil (IsPortWithin 0);
      known = λ q. tt;
      waiting = λ k. All-nil (IsWaitWithin k);
      members = λ g. record { ports = All-nil (λ (q : Ui). is_port q ≡ true); few = omega arith };
    }
