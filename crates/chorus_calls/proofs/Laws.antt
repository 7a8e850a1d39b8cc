-- What holds of a client after each event, and so after every list of them.
use Rattle.std.proofs.Common.{◌≡◌, ℕ, ◌+◌, ◌<◌, ◌≤◌, true, cond, List, [], ◌∷◌, Option, Some, None, refl, arith}
use Rattle.std.proofs.lemmas.Bool.Decides.{nat_tests}
use Rattle.chorus_calls.specs.Clients.{Call, Calling, has_number}
use Rattle.chorus_calls.specs.Law.{Event, Begin, Reply, Cancel, happens, client_after, gives, settles, times_given, times_settled, SettlesOnce}

-- of a client with this outstanding call and this many numbers given, of which each was given and settled so often
record Holds (call : Option Call) (last : ℕ) (given settled : ℕ → ℕ) : Type 0 where
  latest : (n : ℕ) → has_number n call ≡ true → n ≡ last
  none_ahead : (n : ℕ) → last < n → given n ≡ 0
  once : (n : ℕ) → given n ≤ 1
  balanced : (n : ℕ) → given n ≡ settled n + cond (has_number n call) 1 0

abbrev HoldsOf : Calling → (ℕ → ℕ) → (ℕ → ℕ) → Type 0
HoldsOf c given settled = Holds c.outstanding c.given given settled

step : (event : Event) (call : Option Call) (last : ℕ) (given settled : ℕ → ℕ) → Holds call last given settled →
    let c : Calling = record { outstanding = call; given = last } in
    HoldsOf (happens event c) (λ n. cond (gives n event c) 1 0 + given n) (λ n. cond (settles n event c) 1 0 + settled n)
step (Begin port back body) None last given settled h = record {
  latest = λ n e. grind (arith, nat_tests);
  none_ahead = λ n l. grind (arith, nat_tests, h.none_ahead n);
  once = λ n. grind (arith, nat_tests, h.none_ahead n, h.once n);
  balanced = λ n. omega (arith, h.balanced n);
}
step (Begin port back body) (Some call) last given settled h = record {
  latest = h.latest;
  none_ahead = λ n l. omega (arith, h.none_ahead n l);
  once = λ n. omega (arith, h.once n);
  balanced = λ n. omega (arith, h.balanced n);
}
step (Reply number) None last given settled h = record {
  latest = λ n e. grind (arith, nat_tests);
  none_ahead = λ n l. grind (arith, nat_tests, h.none_ahead n);
  once = λ n. grind (arith, nat_tests, h.once n);
  balanced = λ n. grind (arith, nat_tests, h.balanced n);
}
step (Reply number) (Some call) last given settled h = record {
  latest = λ n e. grind (arith, nat_tests, h.latest n);
  none_ahead = λ n l. grind (arith, nat_tests, h.none_ahead n);
  once = λ n. grind (arith, nat_tests, h.once n);
  balanced = λ n. grind (arith, nat_tests, h.balanced n);
}
step Cancel call last given settled h = record {
  latest = λ n e. grind (arith, nat_tests);
  none_ahead = λ n l. omega (arith, h.none_ahead n l);
  once = λ n. omega (arith, h.once n);
  balanced = λ n. omega (arith, h.balanced n);
}

always : (events : List Event) → HoldsOf (client_after events) (λ n. times_given n events) (λ n. times_settled n events)
always [] = record {
  latest = λ n e. grind (arith, nat_tests);
  none_ahead = λ n l. refl;
  once = λ n. omega arith;
  balanced = λ n. refl;
}
always (event ∷ past) =
    let c = client_after past in
    step event c.outstanding c.given (λ n. times_given n past) (λ n. times_settled n past) (always past)

pub given_once : (number : ℕ) (events : List Event) → times_given number events ≤ 1
given_once number events = (always events).once number

pub settled_once : SettlesOnce
settled_once number events = (always events).balanced number
