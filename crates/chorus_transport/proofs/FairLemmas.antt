-- n rounds of a fair line bring a window more.
use Rattle.std.proofs.Common.{◌≡◌, ℕ, zero, suc, ◌+◌, ◌*◌, ◌<◌, ◌≤◌, ◌⊎◌, inl, inr, ⊎_elim, false, List, [], ◌∷◌, ◌++◌, length, map, take, drop, refl, sym, ◌∙◌, ap, subst, arith, append_assoc, length-append}
use Rattle.std.proofs.Math.Nat.{suc-mul}
use Rattle.std.proofs.Math.Seq.{drop-append_seam}
use Rattle.std.proofs.lemmas.Bool.{cond_both, cond-false, cases_lt}
use Rattle.std.proofs.lemmas.Bool.Decides.{nat_tests}
use Rattle.std.proofs.lemmas.List.{append-nil, length-take, take_all, take-append-le}
use Rattle.chorus_transport.specs.declared.chunk.Chunk.{Chunk}
use Rattle.chorus_transport.specs.Sending.{Sending, has_room, after_put}
use Rattle.chorus_transport.specs.Line.{Line, Event, Put, happens, run, line_after, IsPrefixOf}
use Rattle.chorus_transport.specs.Rounds.{Brought, a_round, after_round, HasAll, filled, Rule, after_rounds, IsWhole, IsFair, HasFirst, BringsInput}
use Rattle.chorus_transport.proofs.LineLemmas.{Holds, run_keeps, line_holds, delivered_counted}
use Rattle.chorus_transport.proofs.EventLemmas.{Fits, run_fits, line_fits, Follows, follows_itself, follows_then, run_follows}
use Rattle.chorus_transport.proofs.RoundLemmas.{none_of_them, all_came, brings, round_put}

-- The window is filled.

abbrev put_all : List Chunk → List Event
put_all chunks = map (λ chunk. Put chunk) chunks

-- some are put, and none is left or the window is full
record IsFilled (window : ℕ) (whole : List Chunk) (l : Line) : Type 0 where
  rest : List Chunk
  put : l.put ++ rest ≡ whole
  full : (rest ≡ []) ⊎ (window ≤ length l.sender.kept)

full_stays : (chunks : List Chunk) (line : Line) → has_room line.sender ≡ false → run (put_all chunks) line ≡ line
full_stays [] line e = refl
full_stays (chunk ∷ chunks) line e =
    let one : happens line (Put chunk) ≡ line = cond-false (has_room line.sender) _ line e in
    ap (run (put_all chunks)) one ∙ full_stays chunks line e

no_room : (s : Sending) → has_room s ≡ false → s.window ≤ length s.kept
no_room s e = grind (arith, nat_tests)

fill_all : (window : ℕ) (chunks : List Chunk) (line : Line) → line.sender.window ≡ window → IsFilled window (line.put ++ chunks) (run (put_all chunks) line)
fill_all window [] line wide = record { rest = []; put = refl; full = inl refl }
fill_all window (chunk ∷ chunks) line wide =
    cond_both (has_room line.sender) _ line (λ l. IsFilled window (line.put ++ chunk ∷ chunks) (run (put_all chunks) l))
    (λ _.
    let more : Line = record line { sender = after_put line.sender chunk; put = line.put ++ chunk ∷ [] } in
    subst (λ whole. IsFilled window whole (run (put_all chunks) more)) (append_assoc line.put (chunk ∷ []) chunks)
    (fill_all window chunks more wide))
    (λ none.
    subst (IsFilled window (line.put ++ chunk ∷ chunks)) (sym (full_stays chunks line none))
    record { rest = chunk ∷ chunks; put = refl; full = inr (omega (arith, wide, no_room line.sender none)) })

behind : (xs ys zs : List Chunk) → xs ++ ys ≡ zs → xs ++ drop (length xs) zs ≡ zs
behind xs ys zs e = subst (λ whole. xs ++ drop (length xs) whole ≡ whole) e (ap (λ more. xs ++ more) (drop-append_seam xs ys))

take_front : {A : Type 0} (n d : ℕ) (xs : List A) → n ≤ d → take n (take d xs) ≡ take n xs
take_front zero d xs le = refl
take_front (suc n) zero xs le = absurd (omega (arith, le))
take_front (suc n) (suc d) [] le = refl
take_front (suc n) (suc d) (x ∷ xs) le = ap (λ ys. x ∷ ys) (take_front n d xs (omega (arith, le)))

-- What each round keeps.

record Goes (window : ℕ) (input : List Chunk) (line : Line) : Type 0 where
  holds : Holds line
  fits : Fits window line
  front : IsPrefixOf line.put input

module _ (window n : ℕ) (input : List Chunk) (rule : Rule) (line : Line) (goes : Goes window input line) (fair : IsFair n input rule line) where
  abbrev at : ℕ → Line
  at k = after_rounds input rule line k

  abbrev begins : ℕ → Line
  begins k = filled input (at k)

  filled_so : (l : Line) → Goes window input l → IsFilled window input (filled input l)
  filled_so l g =
      subst (λ whole. IsFilled window whole (filled input l)) (behind l.put g.front.0 input g.front.1)
      (fill_all window (drop (length l.put) input) l g.fits.wide)

  filled_goes : (l : Line) → Goes window input l → Goes window input (filled input l)
  filled_goes l g =
      let some = put_all (drop (length l.put) input) in
      let f = filled_so l g in
      record { holds = run_keeps some l g.holds; fits = run_fits window some l g.fits; front = (f.rest, f.put) }

  round_goes : (l : Line) (brought : Brought) → Goes window input l → Goes window input (after_round l brought)
  round_goes l brought g =
      record {
        holds = run_keeps (a_round l brought) l g.holds;
        fits = run_fits window (a_round l brought) l g.fits;
        front = (g.front.0, ap (λ chunks. chunks ++ g.front.0) (round_put l brought) ∙ g.front.1);
      }

  goes_on : (k : ℕ) → Goes window input (at k)
  goes_on zero = goes
  goes_on (suc k) = round_goes (begins k) (rule k (begins k)) (filled_goes (at k) (goes_on k))

  fills : (k : ℕ) → Follows (at k) (begins k)
  fills k = run_follows (put_all (drop (length (at k).put) input)) (at k)

  one_follows : (k : ℕ) → Follows (at k) (at (suc k))
  one_follows k = follows_then (at k) (begins k) (at (suc k)) (fills k) (run_follows (a_round (begins k) (rule k (begins k))) (begins k))

  rounds_follow : (j k : ℕ) → j ≤ k → Follows (at j) (at k)
  rounds_follow j zero le = let same : 0 ≡ j = omega arith in subst (λ i. Follows (at i) (at 0)) same (follows_itself (at 0))
  rounds_follow j (suc k) le =
      ⊎_elim
      (λ (less : j < suc k). follows_then (at j) (at k) (at (suc k)) (rounds_follow j k (omega (arith, less))) (one_follows k))
      (λ (ge : suc k ≤ j). let same : suc k ≡ j = omega arith in subst (λ i. Follows (at i) (at (suc k))) same (follows_itself (at (suc k))))
      (cases_lt j (suc k))

  -- so many are delivered and acknowledged
  record Reached (count : ℕ) (l : Line) : Type 0 where
    base : count ≤ l.sender.base
    delivered : count ≤ l.receiver.delivered

  stays : (count : ℕ) (j k : ℕ) → j ≤ k → Reached count (at j) → Reached count (at k)
  stays count j k le r = let f = rounds_follow j k le in record { base = omega (arith, r.base, f.base); delivered = omega (arith, r.delivered, f.delivered) }

  -- a round that loses nothing brings a window more
  whole_brings : (count k : ℕ) → IsWhole input rule line k → count ≤ (at k).sender.base → (more : ℕ) → more ≤ count + window → more ≤ length input → Reached more (at (suc k))
  whole_brings count k whole so_far more wide within =
      let g = filled_goes (at k) (goes_on k) in
      let f = filled_so (at k) (goes_on k) in
      let all = brings window (begins k) (rule k (begins k)) g.holds g.fits whole in
      let long = length-append (begins k).put f.rest in
      let both = ap length f.put in
      let put : more ≤ length (begins k).put =
      ⊎_elim
      (λ (none : f.rest ≡ []). omega (arith, within, long, both, ap length none))
      (λ (full : window ≤ length (begins k).sender.kept). omega (arith, wide, so_far, full, g.holds.counted, (fills k).base))
      f.full in
      record {
        base = omega (arith, put, all.acknowledged);
        delivered = omega (arith, put, ap length all.delivered, delivered_counted (at (suc k)) (goes_on (suc k)).holds);
      }

  windows_reached : (windows : ℕ) → Reached (length (take (windows * window) input)) (at (windows * n))
  windows_reached zero = let none = length-take (0 * window) input in record { base = omega (arith, none); delivered = omega (arith, none) }
  windows_reached (suc windows) =
      let before = windows_reached windows in
      let w = fair (windows * n) in
      let count = length (take (windows * window) input) in
      let more = length (take (suc windows * window) input) in
      let now = stays count (windows * n) w.0 w.1 before in
      let a = length-take (windows * window) input in
      let b = length-take (suc windows * window) input in
      let one = suc-mul windows window in
      let next = whole_brings count w.0 w.3 now.base more (omega (arith, a, b, one)) (omega (arith, b)) in
      stays more (suc w.0) (suc windows * n) (omega (arith, w.2, suc-mul windows n)) next

  -- what is delivered then
  brought_so : (count : ℕ) (l : Line) → Goes window input l → Reached (length (take count input)) l → HasFirst count input l
  brought_so count l g r =
      let d = l.receiver.delivered in
      let long = length-append l.put g.front.0 in
      let both = ap length g.front.1 in
      let cut = length-take count input in
      let within = g.holds.within in
      record {
        delivered =
            ap (take count) g.holds.delivered
            ∙ ⊎_elim
            (λ (less : d < count).
            let whole : g.front.0 ≡ [] = none_of_them g.front.0 (omega (arith, less, r.delivered, cut, within, long, both)) in
            let same : l.put ≡ input = sym (append-nil l.put) ∙ ap (λ more. l.put ++ more) (sym whole) ∙ g.front.1 in
            ap (take count) (take_all d l.put (omega (arith, less, r.delivered, cut, long, both)) ∙ same))
            (λ (ge : count ≤ d).
            take_front count d l.put ge
            ∙ sym (take-append-le count l.put g.front.0 (omega (arith, ge, within)))
            ∙ ap (take count) g.front.1)
            (cases_lt d count);
        acknowledged = r.base;
      }

  input_brought : (windows : ℕ) → HasFirst (windows * window) input (at (windows * n))
  input_brought windows = brought_so (windows * window) (at (windows * n)) (goes_on (windows * n)) (windows_reached windows)

  all_brought : (windows : ℕ) → length input ≤ windows * window → HasAll input (at (windows * n))
  all_brought windows enough =
      let l = at (windows * n) in
      let g = goes_on (windows * n) in
      let r = windows_reached windows in
      let cut = length-take (windows * window) input in
      let long = length-append l.put g.front.0 in
      let both = ap length g.front.1 in
      let whole : g.front.0 ≡ [] = none_of_them g.front.0 (omega (arith, r.base, cut, enough, long, both, g.holds.counted)) in
      all_came l input g.holds (sym (append-nil l.put) ∙ ap (λ more. l.put ++ more) (sym whole) ∙ g.front.1)
      (omega (arith, r.base, cut, enough)) (omega (arith, r.delivered, cut, enough))

pub fair_brings : (window : ℕ) (events : List Event) (n : ℕ) (input : List Chunk) (rule : Rule) → IsPrefixOf (line_after window events).put input → IsFair n input rule (line_after window events) → BringsInput window n input rule (line_after window events)
fair_brings window events n input rule front fair =
    let line = line_after window events in
    let goes : Goes window input line = record { holds = line_holds window events; fits = line_fits window events; front = front } in
    record { steady = input_brought window n input rule line goes fair; ends = all_brought window n input rule line goes fair }
