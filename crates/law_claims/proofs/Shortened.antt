-- The short forms, as they are meant.
use Rattle.std.proofs.Common.{ℕ, ◌≡◌, Bool, true, false, List, [], ◌∷◌, ◌++◌, codes, Some, ◌⊎◌, inl, inr, refl, sym, ◌∙◌, ap, subst}
use Rattle.std.specs.List.{Contains, list_all}
use Rattle.chorus_lines.specs.Text.{cut}
use Rattle.chorus_claims.specs.Words.{words_in, parts, behind_throughout, long_form, long_call_form}
use Rattle.chorus_claims.specs.Pieces.{Piece, Word, Any, Rest, Letter, Choice, chosen, choices, is_one_so, meets}
use Rattle.chorus_claims.specs.Shapes.{form_of, claim_of, fault_of}
use Rattle.chorus_claims.specs.Places.{message_place, port_place, script_place, is_post_act, is_port_act, is_group_act, is_refusal}
use Rattle.law_claims.specs.Short.{Says, IsTaken, RefusesNothing, IsReceived, Waits, LosesNothing, LeavesNothing, IsReplied, RepliesToRequests, IsLate, IsOutstanding, ShortFormsAreClaims, NothingRefused, NothingLost, NothingLeft, RequestsReplied, NothingLate, CallsSettled}
use Rattle.law_claims.proofs.Fitting.{put, Fit}
use Rattle.law_claims.proofs.Meeting.{word-first, any-first, bound-first, free-first, nothing-left, to-end, ends-same, SoBy, OneOf, one-met, met-one, two-met, met-two}

abbrev answer : List ℕ
answer = codes "answer"

abbrev verdict : List ℕ
verdict = codes "verdict"

abbrev port : List ℕ
port = codes "port"

abbrev accepted : List ℕ
accepted = codes "accepted"

abbrev all-met : List (List (List ℕ)) → List (List Piece) → List (List Piece) → Bool
all-met lines left right = list_all (λ (c : List Choice). is_one_so lines c right) (choices left lines ([] ∷ []))

opened : (throughout possible : Bool) (left right : List (List Piece)) (text : List ℕ) → meets (record { throughout = throughout; possible = possible; left = left; right = right }) text ≡ all-met (words_in text) left right
unfolding meets
opened throughout possible left right text = refl

said : (claim : List ℕ) (left right : List (List Piece)) (IsSo : List (List (List ℕ)) → Type 0) → claim_of claim ≡ record { throughout = false; possible = false; left = left; right = right }
    → ((lines : List (List (List ℕ))) → all-met lines left right ≡ true → IsSo lines) → ((lines : List (List (List ℕ))) → IsSo lines → all-met lines left right ≡ true) → Says claim IsSo
said claim left right IsSo is to from text =
    let same = ap (λ k. meets k text) is ∙ opened false false left right text in
    ((λ met. to (words_in text) (sym same ∙ met)), (λ so. same ∙ from (words_in text) so))

-- nothing refused

abbrev refused-left : List Piece
refused-left = Word verdict ∷ Letter 88 ∷ Letter 65 ∷ Rest ∷ []

abbrev verdict-of : List ℕ → List Piece
verdict-of it = Word verdict ∷ Letter 88 ∷ Word it ∷ []

abbrev refused-right : List (List Piece)
refused-right = verdict-of accepted ∷ verdict-of (codes "chosen") ∷ []

refused-is : claim_of (codes "nothing refused") ≡ record { throughout = false; possible = false; left = refused-left ∷ []; right = refused-right }
unfolding claim_of behind_throughout cut long_form parts form_of
refused-is = refl

verdict-line : (x it : List ℕ) (ws : List (List ℕ)) (c d : List Choice) → chosen 88 c ≡ Some x → Fit (verdict-of it) ws c d → ws ≡ verdict ∷ x ∷ it ∷ []
verdict-line x it ws c d is h =
    let a = word-first verdict (Letter 88 ∷ Word it ∷ []) ws c d h in
    let b = bound-first 88 x (Word it ∷ []) a.rest c d is a.so in
    let e = word-first it [] b.rest c d b.so in
    a.is ∙ ap (λ vs. verdict ∷ vs) (b.is ∙ ap (λ vs. x ∷ vs) (e.is ∙ ap (λ vs. it ∷ vs) (nothing-left e.rest c d e.so).0))

module _ (lines : List (List (List ℕ))) where
  refused-to : all-met lines (refused-left ∷ []) refused-right ≡ true → RefusesNothing lines
  refused-to met x it rest told =
      by (one-met lines refused-right refused-left met
      (record { line = verdict ∷ x ∷ it ∷ rest; more = put 65 it (put 88 x []); told = told; fit = (refl, to-end rest (put 65 it (put 88 x []))) }))
    where
      by : OneOf lines (put 65 it (put 88 x [])) refused-right → IsTaken lines x
      by (inl s) = inl (subst (Contains lines) (verdict-line x accepted s.line (put 65 it (put 88 x [])) s.more refl s.fit) s.told)
      by (inr (inl s)) = inr (subst (Contains lines) (verdict-line x (codes "chosen") s.line (put 65 it (put 88 x [])) s.more refl s.fit) s.told)
      by (inr (inr h)) = absurd h

  refused-by : (x it : List ℕ) → IsTaken lines x → OneOf lines (put 65 it (put 88 x [])) refused-right
  refused-by x it (inl h) =
      inl (record { line = verdict ∷ x ∷ accepted ∷ []; more = put 65 it (put 88 x []); told = h; fit = (refl, (refl, (refl, refl))) })
  refused-by x it (inr h) =
      inr (inl (record { line = verdict ∷ x ∷ codes "chosen" ∷ []; more = put 65 it (put 88 x []); told = h; fit = (refl, (refl, (refl, refl))) }))

  refused-from : RefusesNothing lines → all-met lines (refused-left ∷ []) refused-right ≡ true
  refused-from none = met-one lines refused-right refused-left (λ s.
      let a = word-first verdict (Letter 88 ∷ Letter 65 ∷ Rest ∷ []) s.line [] s.more s.fit in
      let b = free-first 88 (Letter 65 ∷ Rest ∷ []) a.rest [] s.more refl a.so in
      let e = free-first 65 (Rest ∷ []) b.rest (put 88 b.first []) s.more refl b.so in
      let line = a.is ∙ ap (λ vs. verdict ∷ vs) (b.is ∙ ap (λ vs. b.first ∷ vs) e.is) in
      subst (λ c. OneOf lines c refused-right) (ends-same e.rest (put 65 e.first (put 88 b.first [])) s.more e.so)
      (refused-by b.first e.first (none b.first e.first e.rest (subst (Contains lines) line s.told))))

pub nothing-refused : NothingRefused
nothing-refused = said (codes "nothing refused") (refused-left ∷ []) refused-right RefusesNothing refused-is refused-to refused-from

-- nothing left

abbrev left-left : List Piece
left-left = Word port ∷ Letter 80 ∷ Letter 65 ∷ Rest ∷ []

abbrev left-right : List Piece
left-right = Word port ∷ Letter 80 ∷ Letter 65 ∷ []

left-is : claim_of (codes "nothing left") ≡ record { throughout = false; possible = false; left = left-left ∷ []; right = left-right ∷ [] }
unfolding claim_of behind_throughout cut long_form parts form_of
left-is = refl

module _ (lines : List (List (List ℕ))) where
  left-to : all-met lines (left-left ∷ []) (left-right ∷ []) ≡ true → LeavesNothing lines
  left-to met p actor rest told =
      by (one-met lines (left-right ∷ []) left-left met
      (record { line = port ∷ p ∷ actor ∷ rest; more = put 65 actor (put 80 p []); told = told; fit = (refl, to-end rest (put 65 actor (put 80 p []))) }))
    where
      by : OneOf lines (put 65 actor (put 80 p [])) (left-right ∷ []) → Contains lines (port ∷ p ∷ actor ∷ [])
      by (inl s) =
          let c = put 65 actor (put 80 p []) in
          let a = word-first port (Letter 80 ∷ Letter 65 ∷ []) s.line c s.more s.fit in
          let b = bound-first 80 p (Letter 65 ∷ []) a.rest c s.more refl a.so in
          let e = bound-first 65 actor [] b.rest c s.more refl b.so in
          subst (Contains lines) (a.is ∙ ap (λ vs. port ∷ vs) (b.is ∙ ap (λ vs. p ∷ vs) (e.is ∙ ap (λ vs. actor ∷ vs) (nothing-left e.rest c s.more e.so).0))) s.told
      by (inr h) = absurd h

  left-from : LeavesNothing lines → all-met lines (left-left ∷ []) (left-right ∷ []) ≡ true
  left-from none = met-one lines (left-right ∷ []) left-left (λ s.
      let a = word-first port (Letter 80 ∷ Letter 65 ∷ Rest ∷ []) s.line [] s.more s.fit in
      let b = free-first 80 (Letter 65 ∷ Rest ∷ []) a.rest [] s.more refl a.so in
      let e = free-first 65 (Rest ∷ []) b.rest (put 80 b.first []) s.more refl b.so in
      let line = a.is ∙ ap (λ vs. port ∷ vs) (b.is ∙ ap (λ vs. b.first ∷ vs) e.is) in
      let c = put 65 e.first (put 80 b.first []) in
      let there = none b.first e.first e.rest (subst (Contains lines) line s.told) in
      subst (λ c. OneOf lines c (left-right ∷ [])) (ends-same e.rest c s.more e.so)
      (inl (record { line = port ∷ b.first ∷ e.first ∷ []; more = c; told = there; fit = (refl, (refl, (refl, refl))) })))

pub nothing-is-left : NothingLeft
nothing-is-left = said (codes "nothing left") (left-left ∷ []) (left-right ∷ []) LeavesNothing left-is left-to left-from

-- nothing lost

abbrev lost-left : List Piece
lost-left = verdict-of accepted

abbrev received : List Piece
received = Word answer ∷ Any ∷ Any ∷ Word (codes "take") ∷ Any ∷ Letter 88 ∷ Rest ∷ []

abbrev waiting : List Piece
waiting = Word port ∷ Any ∷ Any ∷ Rest ∷ Letter 88 ∷ Rest ∷ []

lost-is : claim_of (codes "nothing lost") ≡ record { throughout = false; possible = false; left = lost-left ∷ []; right = received ∷ waiting ∷ [] }
unfolding claim_of behind_throughout cut long_form parts form_of
lost-is = refl

module _ (lines : List (List (List ℕ))) (x : List ℕ) where
  abbrev it : List Choice
  it = put 88 x []

  is-received : SoBy lines it received → IsReceived lines x
  is-received s =
      let a = word-first answer (Any ∷ Any ∷ Word (codes "take") ∷ Any ∷ Letter 88 ∷ Rest ∷ []) s.line it s.more s.fit in
      let b = any-first (Any ∷ Word (codes "take") ∷ Any ∷ Letter 88 ∷ Rest ∷ []) a.rest it s.more a.so in
      let e = any-first (Word (codes "take") ∷ Any ∷ Letter 88 ∷ Rest ∷ []) b.rest it s.more b.so in
      let f = word-first (codes "take") (Any ∷ Letter 88 ∷ Rest ∷ []) e.rest it s.more e.so in
      let g = any-first (Letter 88 ∷ Rest ∷ []) f.rest it s.more f.so in
      let h = bound-first 88 x (Rest ∷ []) g.rest it s.more refl g.so in
      let line = a.is ∙ ap (λ vs. answer ∷ vs) (b.is ∙ ap (λ vs. b.first ∷ vs) (e.is ∙ ap (λ vs. e.first ∷ vs) (f.is ∙ ap (λ vs. codes "take" ∷ vs) (g.is ∙ ap (λ vs. g.first ∷ vs) h.is)))) in
      record { script = b.first; number = e.first; port = g.first; rest = h.rest; told = subst (Contains lines) line s.told }

  waits : SoBy lines it waiting → Waits lines x
  waits s =
      let a = word-first port (Any ∷ Any ∷ Rest ∷ Letter 88 ∷ Rest ∷ []) s.line it s.more s.fit in
      let b = any-first (Any ∷ Rest ∷ Letter 88 ∷ Rest ∷ []) a.rest it s.more a.so in
      let e = any-first (Rest ∷ Letter 88 ∷ Rest ∷ []) b.rest it s.more b.so in
      let t = e.so in
      let h = bound-first 88 x (Rest ∷ []) t.behind it s.more refl t.so in
      let line = a.is ∙ ap (λ vs. port ∷ vs) (b.is ∙ ap (λ vs. b.first ∷ vs) (e.is ∙ ap (λ vs. e.first ∷ vs) (t.is ∙ ap (λ vs. t.front ++ vs) h.is))) in
      record { port = b.first; actor = e.first; front = t.front; behind = h.rest; told = subst (Contains lines) line s.told }

  kept-to : OneOf lines it (received ∷ waiting ∷ []) → IsReceived lines x ⊎ Waits lines x
  kept-to (inl s) = inl (is-received s)
  kept-to (inr (inl s)) = inr (waits s)
  kept-to (inr (inr h)) = absurd h

  kept-from : IsReceived lines x ⊎ Waits lines x → OneOf lines it (received ∷ waiting ∷ [])
  kept-from (inl r) =
      inl (record { line = answer ∷ r.script ∷ r.number ∷ codes "take" ∷ r.port ∷ x ∷ r.rest; more = it; told = r.told; fit = (refl, (refl, (refl, to-end r.rest it))) })
  kept-from (inr w) =
      inr (inl (record {
        line = port ∷ w.port ∷ w.actor ∷ w.front ++ x ∷ w.behind;
        more = it;
        told = w.told;
        fit = (refl, record { front = w.front; behind = x ∷ w.behind; is = refl; so = (refl, to-end w.behind it) });
      }))

module _ (lines : List (List (List ℕ))) where
  lost-to : all-met lines (lost-left ∷ []) (received ∷ waiting ∷ []) ≡ true → LosesNothing lines
  lost-to met x told =
      kept-to lines x (one-met lines (received ∷ waiting ∷ []) lost-left met
      (record { line = verdict ∷ x ∷ accepted ∷ []; more = put 88 x []; told = told; fit = (refl, (refl, refl)) }))

  lost-from : LosesNothing lines → all-met lines (lost-left ∷ []) (received ∷ waiting ∷ []) ≡ true
  lost-from none = met-one lines (received ∷ waiting ∷ []) lost-left (λ s.
      let a = word-first verdict (Letter 88 ∷ Word accepted ∷ []) s.line [] s.more s.fit in
      let b = free-first 88 (Word accepted ∷ []) a.rest [] s.more refl a.so in
      let e = word-first accepted [] b.rest (put 88 b.first []) s.more b.so in
      let n = nothing-left e.rest (put 88 b.first []) s.more e.so in
      let line = a.is ∙ ap (λ vs. verdict ∷ vs) (b.is ∙ ap (λ vs. b.first ∷ vs) (e.is ∙ ap (λ vs. accepted ∷ vs) n.0)) in
      subst (λ c. OneOf lines c (received ∷ waiting ∷ [])) n.1 (kept-from lines b.first (none b.first (subst (Contains lines) line s.told))))

pub nothing-lost : NothingLost
nothing-lost = said (codes "nothing lost") (lost-left ∷ []) (received ∷ waiting ∷ []) LosesNothing lost-is lost-to lost-from

-- requests replied

abbrev took : List Piece
took = Word answer ∷ Letter 83 ∷ Any ∷ Word (codes "take") ∷ Any ∷ Letter 88 ∷ Rest ∷ []

abbrev asked : List Piece
asked = Word answer ∷ Letter 67 ∷ Any ∷ Word (codes "post") ∷ Letter 88 ∷ Any ∷ Any ∷ Word (codes "request") ∷ Letter 78 ∷ Rest ∷ []

abbrev replied : List Piece
replied = Word answer ∷ Letter 83 ∷ Any ∷ Word (codes "post") ∷ Any ∷ Word port ∷ Any ∷ Word (codes "reply") ∷ Letter 67 ∷ Letter 78 ∷ Rest ∷ []

replied-is : claim_of (codes "requests replied") ≡ record { throughout = false; possible = false; left = took ∷ asked ∷ []; right = replied ∷ [] }
unfolding claim_of behind_throughout cut long_form long_call_form parts form_of
replied-is = refl

module _ (lines : List (List (List ℕ))) (s x c n : List ℕ) where
  abbrev known : List Choice
  known = put 78 n (put 67 c (put 88 x (put 83 s [])))

  reply-to : OneOf lines known (replied ∷ []) → IsReplied lines s c n
  reply-to (inl o) =
      let a = word-first answer (Letter 83 ∷ Any ∷ Word (codes "post") ∷ Any ∷ Word port ∷ Any ∷ Word (codes "reply") ∷ Letter 67 ∷ Letter 78 ∷ Rest ∷ []) o.line known o.more o.fit in
      let b = bound-first 83 s (Any ∷ Word (codes "post") ∷ Any ∷ Word port ∷ Any ∷ Word (codes "reply") ∷ Letter 67 ∷ Letter 78 ∷ Rest ∷ []) a.rest known o.more refl a.so in
      let e = any-first (Word (codes "post") ∷ Any ∷ Word port ∷ Any ∷ Word (codes "reply") ∷ Letter 67 ∷ Letter 78 ∷ Rest ∷ []) b.rest known o.more b.so in
      let f = word-first (codes "post") (Any ∷ Word port ∷ Any ∷ Word (codes "reply") ∷ Letter 67 ∷ Letter 78 ∷ Rest ∷ []) e.rest known o.more e.so in
      let g = any-first (Word port ∷ Any ∷ Word (codes "reply") ∷ Letter 67 ∷ Letter 78 ∷ Rest ∷ []) f.rest known o.more f.so in
      let h = word-first port (Any ∷ Word (codes "reply") ∷ Letter 67 ∷ Letter 78 ∷ Rest ∷ []) g.rest known o.more g.so in
      let i = any-first (Word (codes "reply") ∷ Letter 67 ∷ Letter 78 ∷ Rest ∷ []) h.rest known o.more h.so in
      let j = word-first (codes "reply") (Letter 67 ∷ Letter 78 ∷ Rest ∷ []) i.rest known o.more i.so in
      let k = bound-first 67 c (Letter 78 ∷ Rest ∷ []) j.rest known o.more refl j.so in
      let l = bound-first 78 n (Rest ∷ []) k.rest known o.more refl k.so in
      let end = h.is ∙ ap (λ vs. port ∷ vs) (i.is ∙ ap (λ vs. i.first ∷ vs) (j.is ∙ ap (λ vs. codes "reply" ∷ vs) (k.is ∙ ap (λ vs. c ∷ vs) l.is))) in
      let line = a.is ∙ ap (λ vs. answer ∷ vs) (b.is ∙ ap (λ vs. s ∷ vs) (e.is ∙ ap (λ vs. e.first ∷ vs) (f.is ∙ ap (λ vs. codes "post" ∷ vs) (g.is ∙ ap (λ vs. g.first ∷ vs) end)))) in
      record { number = e.first; message = g.first; port = i.first; rest = l.rest; told = subst (Contains lines) line o.told }
  reply-to (inr h) = absurd h

  reply-from : IsReplied lines s c n → OneOf lines known (replied ∷ [])
  reply-from r =
      inl (record {
        line = answer ∷ s ∷ r.number ∷ codes "post" ∷ r.message ∷ port ∷ r.port ∷ codes "reply" ∷ c ∷ n ∷ r.rest;
        more = known;
        told = r.told;
        fit = (refl, (refl, (refl, (refl, (refl, (refl, (refl, to-end r.rest known)))))));
      })

module _ (lines : List (List (List ℕ))) where
  replied-to : all-met lines (took ∷ asked ∷ []) (replied ∷ []) ≡ true → RepliesToRequests lines
  replied-to met s i p x c j dest q n rest more first second =
      reply-to lines s x c n (two-met lines (replied ∷ []) took asked met
      (record {
        line = answer ∷ s ∷ i ∷ codes "take" ∷ p ∷ x ∷ rest;
        more = put 88 x (put 83 s []);
        told = first;
        fit = (refl, (refl, to-end rest (put 88 x (put 83 s []))));
      })
      (record {
        line = answer ∷ c ∷ j ∷ codes "post" ∷ x ∷ dest ∷ q ∷ codes "request" ∷ n ∷ more;
        more = known lines s x c n;
        told = second;
        fit = (refl, (refl, (refl, (refl, to-end more (known lines s x c n)))));
      }))

  replied-from : RepliesToRequests lines → all-met lines (took ∷ asked ∷ []) (replied ∷ []) ≡ true
  replied-from each = met-two lines (replied ∷ []) took asked (λ o u.
      let a = word-first answer (Letter 83 ∷ Any ∷ Word (codes "take") ∷ Any ∷ Letter 88 ∷ Rest ∷ []) o.line [] o.more o.fit in
      let b = free-first 83 (Any ∷ Word (codes "take") ∷ Any ∷ Letter 88 ∷ Rest ∷ []) a.rest [] o.more refl a.so in
      let e = any-first (Word (codes "take") ∷ Any ∷ Letter 88 ∷ Rest ∷ []) b.rest (put 83 b.first []) o.more b.so in
      let f = word-first (codes "take") (Any ∷ Letter 88 ∷ Rest ∷ []) e.rest (put 83 b.first []) o.more e.so in
      let g = any-first (Letter 88 ∷ Rest ∷ []) f.rest (put 83 b.first []) o.more f.so in
      let h = free-first 88 (Rest ∷ []) g.rest (put 83 b.first []) o.more refl g.so in
      let line = a.is ∙ ap (λ vs. answer ∷ vs) (b.is ∙ ap (λ vs. b.first ∷ vs) (e.is ∙ ap (λ vs. e.first ∷ vs) (f.is ∙ ap (λ vs. codes "take" ∷ vs) (g.is ∙ ap (λ vs. g.first ∷ vs) h.is)))) in
      let same = ends-same h.rest (put 88 h.first (put 83 b.first [])) o.more h.so in
      behind b.first e.first g.first h.first h.rest (subst (Contains lines) line o.told) u.line u.more u.told (subst (λ c. Fit asked u.line c u.more) (sym same) u.fit))
    where
      behind : (s i p x : List ℕ) (rest : List (List ℕ)) → Contains lines (answer ∷ s ∷ i ∷ codes "take" ∷ p ∷ x ∷ rest) → (ws : List (List ℕ)) (d : List Choice) → Contains lines ws
          → Fit asked ws (put 88 x (put 83 s [])) d → OneOf lines d (replied ∷ [])
      behind s i p x rest first ws d second fit =
          let c1 = put 88 x (put 83 s []) in
          let a = word-first answer (Letter 67 ∷ Any ∷ Word (codes "post") ∷ Letter 88 ∷ Any ∷ Any ∷ Word (codes "request") ∷ Letter 78 ∷ Rest ∷ []) ws c1 d fit in
          let b = free-first 67 (Any ∷ Word (codes "post") ∷ Letter 88 ∷ Any ∷ Any ∷ Word (codes "request") ∷ Letter 78 ∷ Rest ∷ []) a.rest c1 d refl a.so in
          let c2 = put 67 b.first c1 in
          let e = any-first (Word (codes "post") ∷ Letter 88 ∷ Any ∷ Any ∷ Word (codes "request") ∷ Letter 78 ∷ Rest ∷ []) b.rest c2 d b.so in
          let f = word-first (codes "post") (Letter 88 ∷ Any ∷ Any ∷ Word (codes "request") ∷ Letter 78 ∷ Rest ∷ []) e.rest c2 d e.so in
          let g = bound-first 88 x (Any ∷ Any ∷ Word (codes "request") ∷ Letter 78 ∷ Rest ∷ []) f.rest c2 d refl f.so in
          let h = any-first (Any ∷ Word (codes "request") ∷ Letter 78 ∷ Rest ∷ []) g.rest c2 d g.so in
          let k = any-first (Word (codes "request") ∷ Letter 78 ∷ Rest ∷ []) h.rest c2 d h.so in
          let l = word-first (codes "request") (Letter 78 ∷ Rest ∷ []) k.rest c2 d k.so in
          let m = free-first 78 (Rest ∷ []) l.rest c2 d refl l.so in
          let end = g.is ∙ ap (λ vs. x ∷ vs) (h.is ∙ ap (λ vs. h.first ∷ vs) (k.is ∙ ap (λ vs. k.first ∷ vs) (l.is ∙ ap (λ vs. codes "request" ∷ vs) m.is))) in
          let line = a.is ∙ ap (λ vs. answer ∷ vs) (b.is ∙ ap (λ vs. b.first ∷ vs) (e.is ∙ ap (λ vs. e.first ∷ vs) (f.is ∙ ap (λ vs. codes "post" ∷ vs) end))) in
          subst (λ c. OneOf lines c (replied ∷ [])) (ends-same m.rest (put 78 m.first c2) d m.so)
          (reply-from lines s x b.first m.first
          (each s i p x b.first e.first h.first k.first m.first rest m.rest first (subst (Contains lines) line second)))

pub requests-replied : RequestsReplied
requests-replied = said (codes "requests replied") (took ∷ asked ∷ []) (replied ∷ []) RepliesToRequests replied-is replied-to replied-from

-- nothing late

abbrev late-left : List Piece
late-left = Word answer ∷ Any ∷ Any ∷ Word (codes "take") ∷ Any ∷ Any ∷ Word (codes "late") ∷ Any ∷ []

late-is : claim_of (codes "nothing late") ≡ record { throughout = false; possible = false; left = late-left ∷ []; right = [] }
unfolding claim_of behind_throughout cut long_form long_call_form parts form_of
late-is = refl

module _ (lines : List (List (List ℕ))) where
  late-to : all-met lines (late-left ∷ []) [] ≡ true → IsLate lines → ⊥
  late-to met late =
      one-met lines [] late-left met
      (record {
        line = answer ∷ late.script ∷ late.number ∷ codes "take" ∷ late.port ∷ late.message ∷ codes "late" ∷ late.call ∷ [];
        more = [];
        told = late.told;
        fit = (refl, (refl, (refl, refl)));
      })

  is-late : SoBy lines [] late-left → IsLate lines
  is-late s =
      let a = word-first answer (Any ∷ Any ∷ Word (codes "take") ∷ Any ∷ Any ∷ Word (codes "late") ∷ Any ∷ []) s.line [] s.more s.fit in
      let b = any-first (Any ∷ Word (codes "take") ∷ Any ∷ Any ∷ Word (codes "late") ∷ Any ∷ []) a.rest [] s.more a.so in
      let e = any-first (Word (codes "take") ∷ Any ∷ Any ∷ Word (codes "late") ∷ Any ∷ []) b.rest [] s.more b.so in
      let f = word-first (codes "take") (Any ∷ Any ∷ Word (codes "late") ∷ Any ∷ []) e.rest [] s.more e.so in
      let g = any-first (Any ∷ Word (codes "late") ∷ Any ∷ []) f.rest [] s.more f.so in
      let h = any-first (Word (codes "late") ∷ Any ∷ []) g.rest [] s.more g.so in
      let i = word-first (codes "late") (Any ∷ []) h.rest [] s.more h.so in
      let j = any-first [] i.rest [] s.more i.so in
      let end = h.is ∙ ap (λ vs. h.first ∷ vs) (i.is ∙ ap (λ vs. codes "late" ∷ vs) (j.is ∙ ap (λ vs. j.first ∷ vs) (nothing-left j.rest [] s.more j.so).0)) in
      let line = a.is ∙ ap (λ vs. answer ∷ vs) (b.is ∙ ap (λ vs. b.first ∷ vs) (e.is ∙ ap (λ vs. e.first ∷ vs) (f.is ∙ ap (λ vs. codes "take" ∷ vs) (g.is ∙ ap (λ vs. g.first ∷ vs) end)))) in
      record { script = b.first; number = e.first; port = g.first; message = h.first; call = j.first; told = subst (Contains lines) line s.told }

  late-from : (IsLate lines → ⊥) → all-met lines (late-left ∷ []) [] ≡ true
  late-from none = met-one lines [] late-left (λ s. none (is-late s))

pub nothing-late : NothingLate
nothing-late = said (codes "nothing late") (late-left ∷ []) [] (λ lines. IsLate lines → ⊥) late-is late-to late-from

-- calls settled

abbrev settled-left : List Piece
settled-left = Word (codes "outstanding") ∷ Any ∷ Any ∷ []

settled-is : claim_of (codes "calls settled") ≡ record { throughout = false; possible = false; left = settled-left ∷ []; right = [] }
unfolding claim_of behind_throughout cut long_form long_call_form parts form_of
settled-is = refl

module _ (lines : List (List (List ℕ))) where
  settled-to : all-met lines (settled-left ∷ []) [] ≡ true → IsOutstanding lines → ⊥
  settled-to met call =
      one-met lines [] settled-left met
      (record { line = codes "outstanding" ∷ call.script ∷ call.number ∷ []; more = []; told = call.told; fit = (refl, refl) })

  is-outstanding : SoBy lines [] settled-left → IsOutstanding lines
  is-outstanding s =
      let a = word-first (codes "outstanding") (Any ∷ Any ∷ []) s.line [] s.more s.fit in
      let b = any-first (Any ∷ []) a.rest [] s.more a.so in
      let e = any-first [] b.rest [] s.more b.so in
      let line = a.is ∙ ap (λ vs. codes "outstanding" ∷ vs) (b.is ∙ ap (λ vs. b.first ∷ vs) (e.is ∙ ap (λ vs. e.first ∷ vs) (nothing-left e.rest [] s.more e.so).0)) in
      record { script = b.first; number = e.first; told = subst (Contains lines) line s.told }

  settled-from : (IsOutstanding lines → ⊥) → all-met lines (settled-left ∷ []) [] ≡ true
  settled-from none = met-one lines [] settled-left (λ s. none (is-outstanding s))

pub calls-settled : CallsSettled
calls-settled = said (codes "calls settled") (settled-left ∷ []) [] (λ lines. IsOutstanding lines → ⊥) settled-is settled-to settled-from

-- they are claims

pub short-forms : ShortFormsAreClaims
unfolding fault_of behind_throughout cut long_form long_call_form parts form_of message_place port_place script_place is_post_act is_port_act is_group_act is_refusal
short-forms sites commands = (refl, refl, refl, refl, refl, refl)
