-- A claim that is not refused has few facts.
use Rattle.std.proofs.Common.{ℕ, ◌≡◌, ◌≤◌, ◌<◌, ◌+◌, ◌-◌, nat_lt, Bool, true, false, ◌&&◌, cond, List, [], ◌∷◌, length, None, refl, ◌∙◌, arith}
use Rattle.std.proofs.lemmas.Bool.{and_parts}
use Rattle.std.proofs.lemmas.Bool.Decides.{nat_tests}
use Rattle.chorus_claims.specs.Words.{words, is_throughout, asked_text, long_form, is_middle, is_mark}
use Rattle.chorus_claims.specs.Pieces.{Claim, Piece}
use Rattle.chorus_claims.specs.Places.{is_spelled, is_within, is_known}
use Rattle.chorus_claims.specs.Shapes.{piece_of, in_fact, facts_in, behind_middle, form_in, facts_of, claim_in, asked_by, claim_of, are_few, are_facts, are_within, each_word, first_fault, fault_of}
use Rattle.law_claims.specs.Reading.{IsShort, ClaimsAreShort}
use Rattle.chorus_claims.specs.declared.form.Form.{Form}
use Rattle.chorus_claims.specs.declared.form.Form.TheVariants.{Never, Possible, Always, Implies, Before}
use Rattle.chorus_claims.specs.declared.place.Place.TheVariants.{Start}

positive : (n : ℕ) → nat_lt 0 n ≡ true → 0 < n
positive n h = grind (arith, nat_tests)

length-in : (p : Piece) (n : ℕ) (fs : List (List Piece)) → length fs ≤ n + 1 → length (in_fact p fs) ≤ n + 1
length-in p n [] h = omega arith
length-in p n (f ∷ fs) h = h

few-facts : (more : ℕ) (ws : List (List ℕ)) → are_few more ws ≡ true → length (facts_in ws) ≤ more + 1
few-facts more [] h = omega arith
few-facts more (w ∷ ws) h = by (is_middle w) (is_mark w) (piece_of w) h (few-facts (more - 1) ws) (few-facts more ws)
  where
    by : (arrow mark : Bool) (p : Piece) → cond arrow (are_few 3 ws) (cond mark (nat_lt 0 more && are_few (more - 1) ws) (are_few more ws)) ≡ true
        → (are_few (more - 1) ws ≡ true → length (facts_in ws) ≤ more - 1 + 1) → (are_few more ws ≡ true → length (facts_in ws) ≤ more + 1)
        → length (cond arrow ([] ∷ []) (cond mark ([] ∷ facts_in ws) (in_fact p (facts_in ws)))) ≤ more + 1
    by true mark p g less same = omega arith
    by false true p g less same =
        let parts = and_parts (nat_lt 0 more) (are_few (more - 1) ws) g in
        let some = positive more parts.0 in
        let rest = less parts.1 in
        omega (arith, some, rest)
    by false false p g less same = length-in p more (facts_in ws) (same g)

few-behind : (more : ℕ) (ws : List (List ℕ)) → are_few more ws ≡ true → length (facts_in (behind_middle ws)) ≤ 4
few-behind more [] h = omega arith
few-behind more (w ∷ ws) h = by (is_middle w) (is_mark w) h (few-behind (more - 1) ws) (few-behind more ws)
  where
    by : (arrow mark : Bool) → cond arrow (are_few 3 ws) (cond mark (nat_lt 0 more && are_few (more - 1) ws) (are_few more ws)) ≡ true
        → (are_few (more - 1) ws ≡ true → length (facts_in (behind_middle ws)) ≤ 4) → (are_few more ws ≡ true → length (facts_in (behind_middle ws)) ≤ 4)
        → length (facts_in (cond arrow ws (behind_middle ws))) ≤ 4
    by true mark g less same = few-facts 3 ws g
    by false true g less same = less (and_parts (nat_lt 0 more) (are_few (more - 1) ws) g).1
    by false false g less same = same g

short-by : (form : Form) (ws : List (List ℕ)) → are_few 3 ws ≡ true → IsShort (claim_in form ws)
short-by Never ws h = record { few_left = few-facts 3 ws h; few_right = omega arith }
short-by Possible ws h = record { few_left = few-facts 3 ws h; few_right = omega arith }
short-by Always ws h = record { few_left = omega arith; few_right = few-facts 3 ws h }
short-by Implies ws h = record { few_left = few-facts 3 ws h; few_right = few-behind 3 ws h }
short-by Before ws h = record { few_left = few-behind 3 ws h; few_right = few-facts 3 ws h }

short-asked : (throughout : Bool) (k : Claim) → IsShort k → IsShort (asked_by throughout k)
short-asked throughout k h = record { few_left = h.few_left; few_right = h.few_right }

third : (a b c d : Bool) → first_fault a b c d ≡ None → c ≡ true
third true true true d h = refl
third true true false d h = absurd (cc)
third true false c d h = absurd (cc)
third false b c d h = absurd (cc)

pub claims-are-short : ClaimsAreShort
unfolding fault_of claim_of
claims-are-short sites commands text h =
    let throughout = is_throughout text in
    let ws = words (long_form (asked_text text)) in
    let fs = facts_of ws in
    let few = third (are_facts throughout (form_in ws) fs) (each_word is_spelled Start fs) (are_within fs) (each_word (is_known sites commands) Start fs) h in
    short-asked throughout (claim_in (form_in ws) fs) (short-by (form_in ws) fs (and_parts (are_few 3 fs) (each_word is_within Start fs) few).0)
