-- Positions of which the same is told in any form: being so is an equivalence, and what comes behind the one comes behind the
-- other. r is a race, s, t and u are positions, m is a move, ms, os and more are moves.
use Rattle.std.proofs.Common.{ℕ, ◌≡◌, true, List, [], ◌∷◌, ◌++◌, length, slice_get, refl, sym, ◌∙◌, ap}
use Rattle.std.specs.List.{filter}
use Rattle.chorus_ui.specs.declared.layout.Layout.{Layout}
use Rattle.law_explore.specs.Search.{state_after, IsHistory}
use Rattle.law_explore.specs.declared.moves.Move.{Move}
use Rattle.law_explore.specs.Races.{Race, Order, Position, Told, seat_0, may_come, replaying, all_moves, next_moves, IsRace}
use Rattle.law_explore.specs.Positions.{AskAlike}
use Rattle.law_explore.specs.Merging.{Telling, TellsOn, AreToldAlike, ComeToldAlike, ToldAlikeGoOn, ToldAlikeIsAnEquivalence, PlacesTellTheSame}
use Rattle.law_explore.proofs.Carriers.{same-filter, same-Bool}
use Rattle.law_explore.proofs.Telling.{keep_asks, outcomes}
use Rattle.law_explore.proofs.Replays.{Stay, follows}
use Rattle.law_explore.proofs.Positions.{asks-itself, asks-turned, asks-joined, places-itself, places-turned, places-joined, caller-itself, caller-turned, caller-joined, as-many, there, not-scripted}

module _ (tells : Telling) where
  pub itself-told : (count : ℕ) (s : Position) → AreToldAlike tells count s s
  itself-told count s =
      record {
        nets =
            record {
              layout = refl;
              places = places-itself (AskAlike tells.asks) (asks-itself tells.asks) s.net.places;
              packets = refl;
              callers = λ k low high. caller-itself (slice_get s.net.callers k);
            };
        left = refl;
        told = refl;
      }

  pub turned-told : (count : ℕ) (s t : Position) → AreToldAlike tells count s t → AreToldAlike tells count t s
  turned-told count s t h =
      record {
        nets =
            record {
              layout = sym h.nets.layout;
              places = places-turned (AskAlike tells.asks) (asks-turned tells.asks) s.net.places t.net.places h.nets.places;
              packets = sym h.nets.packets;
              callers = λ k low high. caller-turned (slice_get s.net.callers k) (slice_get t.net.callers k) (h.nets.callers k low high);
            };
        left = sym h.left;
        told = sym h.told;
      }

  pub joined-told : (count : ℕ) (s t u : Position) → AreToldAlike tells count s t → AreToldAlike tells count t u → AreToldAlike tells count s u
  joined-told count s t u h f =
      record {
        nets =
            record {
              layout = f.nets.layout ∙ h.nets.layout;
              places = places-joined (AskAlike tells.asks) (asks-joined tells.asks) s.net.places t.net.places u.net.places h.nets.places f.nets.places;
              packets = h.nets.packets ∙ f.nets.packets;
              callers = λ k low high. caller-joined (slice_get s.net.callers k) (slice_get t.net.callers k) (slice_get u.net.callers k) (h.nets.callers k low high) (f.nets.callers k low high);
            };
        left = f.left ∙ h.left;
        told = f.told ∙ h.told;
      }

  abbrev Same : List (List Told) → List (List Told) → Type 0
  Same told other = tells.texts other ≡ tells.texts told

  module _ (on : TellsOn tells) (r : Race) (race : IsRace r) where
    abbrev l : Layout
    l = r.net.layout

    abbrev at : List Move → Position
    at ms = state_after (replaying r) ms

    stay : (ms os : List Move) → IsHistory (replaying r) os → ComeToldAlike tells r ms os → Stay (AskAlike tells.asks) Same (length r.scripts) seat_0 (at ms) (at os)
    stay ms os h alike =
        record { nets = alike.nets; left = alike.left; told = alike.told; all = as-many r race ms; there = λ b. there r race os h }

    pub told-more : (ms os : List Move) (m : Move) → IsHistory (replaying r) os → ComeToldAlike tells r ms os → may_come l m (at ms) ≡ true → (may_come l m (at os) ≡ true) × ComeToldAlike tells r (m ∷ ms) (m ∷ os)
    told-more ms os m h alike may =
        let next = follows (AskAlike tells.asks) (keep_asks tells.asks) Same on l (length r.scripts) seat_0 seat_0 (not-scripted r race) (at ms) (at os) (stay ms os h alike) m may in
        (next.0, record { nets = next.1.nets; left = next.1.left; told = next.1.told })

    pub told-on : (ms os more : List Move) → IsHistory (replaying r) os → ComeToldAlike tells r ms os → IsHistory (replaying r) (more ++ ms)
        → IsHistory (replaying r) (more ++ os) × ComeToldAlike tells r (more ++ ms) (more ++ os)
    told-on ms os [] history alike h = (history, alike)
    told-on ms os (m ∷ more) history alike h =
        let before = told-on ms os more history alike h.1 in
        let next = told-more (more ++ ms) (more ++ os) m before.0 before.1 h.0 in
        ((next.0, before.0), next.1)

    pub told-next : (ms os : List Move) → IsHistory (replaying r) ms → IsHistory (replaying r) os → ComeToldAlike tells r ms os → next_moves r (at os) ≡ next_moves r (at ms)
    told-next ms os h k alike =
        let back = turned-told (length r.scripts) (at ms) (at os) alike in
        same-filter (λ (m : Move). may_come l m (at os)) (λ (m : Move). may_come l m (at ms)) (all_moves l (at os).left)
        (λ m. same-Bool (may_come l m (at os)) (may_come l m (at ms)) (λ may. (told-more os ms m h back may).0) (λ may. (told-more ms os m k alike may).0))
        ∙ ap (λ (left : List (List Order)). filter (λ (m : Move). may_come l m (at ms)) (all_moves l left)) alike.left

pub told-alike-go-on : ToldAlikeGoOn
told-alike-go-on tells r ms os more on race is_ms is_os alike h =
    let both = told-on tells on r race ms os more is_os alike h in
    record {
      may = both.0;
      alike = both.1;
      next = told-next tells on r race (more ++ ms) (more ++ os) h both.0 both.1;
    }

pub told-alike-is-an-equivalence : ToldAlikeIsAnEquivalence
told-alike-is-an-equivalence tells count =
    record { itself = itself-told tells count; turned = turned-told tells count; joined = joined-told tells count }

pub places-tell-the-same : PlacesTellTheSame
places-tell-the-same asks scripts left told ss rs h = outcomes (AskAlike asks) (λ j k x. x.tells) scripts left told ss rs h
