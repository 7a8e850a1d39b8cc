-- Ports and routes: the test and what it says.
use Rattle.std.proofs.Common.{◌≡◌, Bool, true, false, Option, Some, None, refl, sym, ◌∙◌, ap}
use Rattle.std.proofs.lemmas.Bool.{and_parts, true≢false}
use Rattle.chorus_ui.specs.declared.ui.Ui.{Ui}
use Rattle.chorus_ui.specs.Name.{same_ui}
use Rattle.chorus_ui.proofs.Names.{from_same_ui, same_ui-self}
use Rattle.chorus_world.specs.declared.place.Sent.{Sent}
use Rattle.chorus_entry.specs.Same.{same_route}
use Rattle.place_unsettled.specs.declared.wait.Key.{Key}
use Rattle.place_unsettled.specs.Queues.{same_key}
use Rattle.place_unsettled.proofs.Keys.{same_key-refl}
use Rattle.law_network.specs.Records.{is_for}
use Rattle.chorus_world.proofs.Messages.SentFacts.{route-is}

-- a message goes for one port and route
pub key-of : (k : Key) (m : Sent) → is_for k m ≡ true → k ≡ record { port = m.port; route = m.route }
key-of k m h =
    let two = and_parts (same_ui m.port k.port) (same_route m.route k.route) h in
    let p = sym (from_same_ui m.port k.port two.0) in
    let r = sym (route-is m.route k.route two.1) in
    λ i. record { port = p i; route = r i }

pub for-other : (k j : Key) (m : Sent) → is_for k m ≡ true → same_key k j ≡ false → is_for j m ≡ false
for-other k j m h n = go (is_for j m) refl
  where
    go : (b : Bool) → is_for j m ≡ b → b ≡ false
    go false e = refl
    go true e =
        let same : k ≡ j = key-of k m h ∙ sym (key-of j m e) in
        absurd (true≢false (sym (same_key-refl k) ∙ (ap (same_key k) same ∙ n)))

pub same_route-self : (r : Option Ui) → same_route r r ≡ true
same_route-self None = refl
same_route-self (Some g) = same_ui-self g
