-- The numbers of the crew are those of the draws.
-- n is the nucleus, s a site.
use Rattle.std.proofs.Common.{ℕ, ◌≡◌, ◌+◌, ◌*◌, ◌%◌, ◌^◌, ◌≤◌, true, ◌&&◌, min, nat_le, List, [], ◌∷◌, length, take, sum, decimal, refl, sym, ◌∙◌, ap, arith}
use Rattle.std.specs.List.{All}
use Rattle.std.proofs.lemmas.Bool.{and_from, le-leb}
use Rattle.std.proofs.lemmas.List.{length-map}
use Rattle.chorus_ui.specs.declared.layout.Layout.{Layout}
use Rattle.chorus_ui.specs.Layout.{has_actor}
use Rattle.law_network.specs.Calls.{first_actor}
use Rattle.chorus_net.specs.declared.closed.Closed.{Closed}
use Rattle.chorus_nucleus.specs.declared.nucleus.Nucleus.{Nucleus}
use Rattle.chorus_nucleus.specs.declared.pass.Pass.{Pass}
use Rattle.chorus_nucleus.specs.Passes.{layout_of}
use Rattle.chorus_crew.specs.declared.handler.Handled.{Handled}
use Rattle.chorus_run.specs.Threads.{IsClosedBy}
use Rattle.law_emptied.specs.Crewed.{bodies_to}
use Rattle.law_crews.specs.Crews.{AreCounted, IsCounted}
use Rattle.law_crews.proofs.Counted.{crews-count-what-was-sent}
use Rattle.chorus_run.specs.DrawnCrew.Sends.{numbers_to, sendings, tally}
use Rattle.chorus_run.specs.DrawnCrew.Value.{body_value, message_value}
use Rattle.chorus_run.specs.DrawnCrew.Takes.{AreTallied, HasCrewed, IsTallied}
use Rattle.chorus_run.proofs.DrawnCrew.Letters.{bodies-are, decimals, letters, letters-within, numbers-small, script-is, sendings-within, sum-small, values, values-are}

first-there : (l : Layout) → 8 ≤ l.sites → has_actor l first_actor ≡ true
first-there l sites = ap (λ b. b && true && true) (and_from (nat_le 1 1) (nat_le 1 l.sites) refl (le-leb 1 l.sites (omega (arith, sites))))

-- what was counted of decimals are their numbers
tallied-one : (first commands s : ℕ) (h : Handled) → commands ≤ 65536 → IsCounted body_value 64 (bodies_to s (letters (sendings commands 1 first))) h → IsTallied (tally first commands s) h
unfolding tally
tallied-one first commands s h few is =
    let sends = sendings commands 1 first in
    let ns = numbers_to s sends in
    let bodies : bodies_to s (letters sends) ≡ decimals ns = bodies-are s sends in
    let small : All (λ k. k ≤ 65536) ns = numbers-small s 65536 sends (sendings-within commands 1 first 65536 (omega (arith, few))) in
    let count-is : h.count ≡ min 64 (length ns) = is.count ∙ ap (λ z. min 64 (length z)) bodies ∙ ap (min 64) (length-map ns (λ k. decimal k)) in
    let total-is : h.total ≡ sum (take 64 ns) % 2 ^ 64 = is.total ∙ ap (λ z. sum (values (take 64 z)) % 2 ^ 64) bodies ∙ ap (λ z. sum z % 2 ^ 64) (values-are 65536 64 ns (omega arith) small) in
    let least : sum (take 64 ns) ≤ 64 * 65536 = sum-small 65536 64 ns small in
    let total-so : h.total ≡ sum (take 64 ns) = total-is ∙ small-mod (sum (take 64 ns)) least in
    record { count = count-is; total = total-so }
  where
    small-mod : (n : ℕ) → n ≤ 64 * 65536 → n % 2 ^ 64 ≡ n
    small-mod n le = omega (arith, le)

tallied-all : (first commands s : ℕ) (handled : List Handled) → commands ≤ 65536 → AreCounted body_value 64 (letters (sendings commands 1 first)) s handled → AreTallied first commands s handled
tallied-all first commands s [] few a = tt
tallied-all first commands s (h ∷ handled) few a = (tallied-one first commands s h few a.0, tallied-all first commands (s + 1) handled few a.1)

pub crew-tallied : (n : Nucleus) (last : Pass) (closed : Closed) (first commands : ℕ) (handled : List Handled) → 8 ≤ (layout_of n).sites → commands ≤ 65536 → IsClosedBy n last closed → HasCrewed n first commands handled last → AreTallied first commands 1 handled
crew-tallied n last closed first commands handled sites few by h =
    tallied-all first commands 1 handled few
    (crews-count-what-was-sent message_value body_value n first_actor 64 8 (letters (sendings commands 1 first)) handled last closed (λ q position m. refl) (refl, first-there (layout_of n) sites) (omega arith) sites
    (letters-within 65536 (sendings commands 1 first) (sendings-within commands 1 first 65536 (omega (arith, few)))) by.closes
    record {
      of_nucleus = h.of_nucleus;
      seat = h.seat;
      performed = h.performed ∙ sym (script-is first commands);
      within = h.within;
      ended = h.ended;
      before = h.before;
      was = h.was;
      settled = h.settled;
      handled_is = h.handled_is;
    })
