-- When a claim is asked, as its text says.
-- ws, us and vs are words, w is one, s is a short form.
use Rattle.std.proofs.Common.{ℕ, ◌≡◌, ◌==◌, Bool, true, false, ◌&&◌, ◌||◌, cond, List, [], ◌∷◌, ◌++◌, codes, Option, Some, None, is_some, unwrap_or, refl, sym, ◌∙◌, ap, subst}
use Rattle.std.specs.List.{list_any}
use Rattle.std.specs.Str.{bytes_eq}
use Rattle.std.proofs.lemmas.Bool.{false≢true}
use Rattle.chorus_lines.specs.Text.{cut, in_front}
use Rattle.chorus_claims.specs.Words.{parts, parts_behind, words, behind_throughout, is_throughout, asked_text, long_form, long_call_form, is_arrow, is_before, is_middle, is_mark, is_and, is_or}
use Rattle.chorus_claims.specs.Pieces.{Piece, Claim}
use Rattle.chorus_claims.specs.Places.{message_place, port_place, script_place, is_fact}
use Rattle.chorus_claims.specs.Shapes.{form_of, form_by_mark, form_or, behind_form, facts_in, in_fact, piece_of, behind_middle, claim_in, claim_of_words, asked_by, claim_of}
use Rattle.chorus_claims.specs.declared.form.Form.{Form}
use Rattle.chorus_claims.specs.declared.form.Form.TheVariants.{Never, Possible, Always, Implies, Before}
use Rattle.chorus_claims.proofs.Cuts.{cut_parts}
use Rattle.chorus_claims.proofs.Lists.{from-bytes}
use Rattle.law_claims.specs.Short.{at_each_moment, begins_fact, joined, ThroughoutAsksAtEachMoment, BeforeIsThroughout}

-- Behind `throughout`.

behind-it : (text : List ℕ) → behind_throughout (joined (codes "throughout") text) ≡ Some text
unfolding behind_throughout cut
behind-it text = refl

no-word : (o : Option (List ℕ)) (text : List ℕ) → is_some o ≡ false → unwrap_or o text ≡ text
no-word None text e = refl
no-word (Some x) text e = absurd (false≢true (sym e))

asked-twice : (b : Bool) (k : Claim) → b ≡ false → asked_by true k ≡ at_each_moment (asked_by b k)
asked-twice true k e = absurd (false≢true (sym e))
asked-twice false k e = refl

pub throughout-asks : ThroughoutAsksAtEachMoment
unfolding claim_of
throughout-asks text none =
    (λ i. asked_by (is_some (behind-it text i)) (claim_of_words (words (long_form (unwrap_or (behind-it text i) (joined (codes "throughout") text))))))
    ∙ ap (λ (t : List ℕ). asked_by true (claim_of_words (words (long_form t)))) (sym (no-word (behind_throughout text) text none))
    ∙ asked-twice (is_throughout text) (claim_of_words (words (long_form (asked_text text)))) none

-- The words of texts with a space between.

in-front : (c : ℕ) (w : List ℕ) (ws vs us : List (List ℕ)) → us ≡ w ∷ ws → in_front c (us ++ vs) ≡ in_front c us ++ vs
in-front c w ws vs us e = subst (λ (xs : List (List ℕ)). in_front c (xs ++ vs) ≡ in_front c xs ++ vs) (sym e) refl

pub words-joined : (one other : List ℕ) → words (joined one other) ≡ words one ++ words other
unfolding parts
words-joined [] other = refl
words-joined (c ∷ cs) other =
    ap (λ ws. cond (c == 32) ([] ∷ ws) (in_front c ws)) (words-joined cs other)
    ∙ by (c == 32)
  where
    by : (b : Bool) → cond b ([] ∷ (words cs ++ words other)) (in_front c (words cs ++ words other)) ≡ cond b ([] ∷ words cs) (in_front c (words cs)) ++ words other
    by true = refl
    by false = in-front c (cut 32 cs).0 (parts_behind 32 (cut 32 cs).1) (words other) (words cs) (cut_parts 32 cs)

-- A text that begins as a fact does is no short form, and has no word in front that tells its form.

begins-joined : (us vs : List (List ℕ)) → begins_fact us ≡ true → begins_fact (us ++ vs) ≡ true
begins-joined [] vs h = absurd (false≢true h)
begins-joined (w ∷ ws) vs h = h

other-text : (text s : List ℕ) → begins_fact (words text) ≡ true → begins_fact (words s) ≡ false → bytes_eq text s ≡ false
other-text text s h none = by (bytes_eq text s) refl
  where
    by : (b : Bool) → bytes_eq text s ≡ b → b ≡ false
    by true e = absurd (false≢true (sym none ∙ ap (λ (t : List ℕ). begins_fact (words t)) (sym (from-bytes text s e)) ∙ h))
    by false e = refl

abbrev short : List ℕ → Type 0
short s = begins_fact (words s) ≡ false

refused-short : short (codes "nothing refused")
unfolding parts message_place port_place script_place
refused-short = refl

lost-short : short (codes "nothing lost")
unfolding parts message_place port_place script_place
lost-short = refl

left-short : short (codes "nothing left")
unfolding parts message_place port_place script_place
left-short = refl

replied-short : short (codes "requests replied")
unfolding parts message_place port_place script_place
replied-short = refl

late-short : short (codes "nothing late")
unfolding parts message_place port_place script_place
late-short = refl

settled-short : short (codes "calls settled")
unfolding parts message_place port_place script_place
settled-short = refl

call-long : (text : List ℕ) → begins_fact (words text) ≡ true → long_call_form text ≡ text
unfolding long_call_form
call-long text h =
    (λ i. cond (other-text text (codes "requests replied") h replied-short i) (codes "answer S * take * X .. & answer C * post X * * request N .. => answer S * post * port * reply C N ..")
    (cond (other-text text (codes "nothing late") h late-short i) (codes "never answer * * take * * late *") (cond (other-text text (codes "calls settled") h settled-short i) (codes "never outstanding * *") text)))

pub is-long : (text : List ℕ) → begins_fact (words text) ≡ true → long_form text ≡ text
unfolding long_form
is-long text h =
    (λ i. cond (other-text text (codes "nothing refused") h refused-short i) (codes "verdict X A .. => verdict X accepted | verdict X chosen")
    (cond (other-text text (codes "nothing lost") h lost-short i) (codes "verdict X accepted => answer * * take * X .. | port * * .. X ..")
    (cond (other-text text (codes "nothing left") h left-short i) (codes "port P A .. => port P A") (long_call_form text))))
    ∙ call-long text h

not-word : (w s : List ℕ) → is_fact w ≡ true → is_fact s ≡ false → bytes_eq w s ≡ false
not-word w s h none = by (bytes_eq w s) refl
  where
    by : (b : Bool) → bytes_eq w s ≡ b → b ≡ false
    by true e = absurd (false≢true (sym none ∙ ap is_fact (sym (from-bytes w s e)) ∙ h))
    by false e = refl

abbrev no-fact : List ℕ → Type 0
no-fact s = is_fact s ≡ false

never-no : no-fact (codes "never")
unfolding message_place port_place script_place
never-no = refl

possible-no : no-fact (codes "possible")
unfolding message_place port_place script_place
possible-no = refl

always-no : no-fact (codes "always")
unfolding message_place port_place script_place
always-no = refl

throughout-no : no-fact (codes "throughout")
unfolding message_place port_place script_place
throughout-no = refl

form-implies : (w : List ℕ) → is_fact w ≡ true → form_of w ≡ Implies
unfolding form_of
form-implies w h =
    λ i. cond (not-word w (codes "never") h never-no i) Never (cond (not-word w (codes "possible") h possible-no i) Possible (cond (not-word w (codes "always") h always-no i) Always Implies))

not-throughout : (text : List ℕ) → begins_fact (words text) ≡ true → behind_throughout text ≡ None
unfolding behind_throughout
not-throughout text h =
    ap (λ (b : Bool). cond b (cut 32 text).1 None)
    (not-word (cut 32 text).0 (codes "throughout") (ap begins_fact (sym (cut_parts 32 text)) ∙ h) throughout-no)

-- The sides.

any-head : (b rest : Bool) → (b || rest) ≡ false → (b ≡ false) × (rest ≡ false)
any-head true rest h = absurd (false≢true (sym h))
any-head false rest h = (refl, h)

record NoMark (w : List ℕ) : Type 0 where
  no_arrow : is_arrow w ≡ false
  no_before : is_before w ≡ false
  no_middle : is_middle w ≡ false
  no_mark : is_mark w ≡ false

no-mark : (w : List ℕ) → is_mark w ≡ false → NoMark w
no-mark w h =
    let both = any-head (is_and w || is_or w) (is_middle w) h in
    let one = any-head (is_arrow w) (is_before w) both.1 in
    record { no_arrow = one.0; no_before = one.1; no_middle = both.1; no_mark = h }

module _ (m : List ℕ) (middle : is_middle m ≡ true) (vs : List (List ℕ)) where
  facts-front : (us : List (List ℕ)) → list_any is_mark us ≡ false → facts_in (us ++ m ∷ vs) ≡ facts_in us
  facts-front [] h = ap (λ (b : Bool). cond b ([] ∷ []) (cond (is_mark m) ([] ∷ facts_in vs) (in_fact (piece_of m) (facts_in vs)))) middle
  facts-front (u ∷ us) h =
      let both = any-head (is_mark u) (list_any is_mark us) h in
      ap (λ (fs : List (List Piece)). cond (is_middle u) ([] ∷ []) (cond (is_mark u) ([] ∷ fs) (in_fact (piece_of u) fs))) (facts-front us both.1)

  behind-front : (us : List (List ℕ)) → list_any is_mark us ≡ false → behind_middle (us ++ m ∷ vs) ≡ vs
  behind-front [] h = ap (λ (b : Bool). cond b vs (behind_middle vs)) middle
  behind-front (u ∷ us) h =
      let both = any-head (is_mark u) (list_any is_mark us) h in
      let none = no-mark u both.0 in
      ap (λ (b : Bool). cond b (us ++ m ∷ vs) (behind_middle (us ++ m ∷ vs))) none.no_middle ∙ behind-front us both.1

  mark-front : (us : List (List ℕ)) → list_any is_mark us ≡ false → form_by_mark (us ++ m ∷ vs) ≡ form_by_mark (m ∷ vs)
  mark-front [] h = refl
  mark-front (u ∷ us) h =
      let both = any-head (is_mark u) (list_any is_mark us) h in
      let none = no-mark u both.0 in
      (λ i. cond (none.no_before i) Before (cond (none.no_arrow i) Implies (form_by_mark (us ++ m ∷ vs)))) ∙ mark-front us both.1

-- The claim of words that begin as a fact does.
claimed : (ws : List (List ℕ)) → begins_fact ws ≡ true → claim_of_words ws ≡ claim_in (form_by_mark ws) ws
claimed [] h = absurd (false≢true h)
claimed (w ∷ ws) h = λ i. claim_in (form_or (form-implies w h i) (w ∷ ws)) (behind_form (form-implies w h i) w ws)

as-before : (us vs : List (List ℕ)) → begins_fact us ≡ true → list_any is_mark us ≡ false → claim_of_words (us ++ codes "before" ∷ vs) ≡ record { throughout = true; possible = false; left = facts_in vs; right = facts_in us }
as-before us vs begins plain =
    claimed (us ++ codes "before" ∷ vs) (begins-joined us (codes "before" ∷ vs) begins)
    ∙ ap (λ (f : Form). claim_in f (us ++ codes "before" ∷ vs)) (mark-front (codes "before") refl vs us plain)
    ∙ (λ i. record { throughout = true; possible = false; left = facts_in (behind-front (codes "before") refl vs us plain i); right = facts-front (codes "before") refl vs us plain i })

as-implies : (us vs : List (List ℕ)) → begins_fact us ≡ true → list_any is_mark us ≡ false → claim_of_words (us ++ codes "=>" ∷ vs) ≡ record { throughout = false; possible = false; left = facts_in us; right = facts_in vs }
as-implies us vs begins plain =
    claimed (us ++ codes "=>" ∷ vs) (begins-joined us (codes "=>" ∷ vs) begins)
    ∙ ap (λ (f : Form). claim_in f (us ++ codes "=>" ∷ vs)) (mark-front (codes "=>") refl vs us plain)
    ∙ (λ i. record { throughout = false; possible = false; left = facts-front (codes "=>") refl vs us plain i; right = facts_in (behind-front (codes "=>") refl vs us plain i) })

-- the words of three texts
three : (one m other : List ℕ) → words (joined one (joined m other)) ≡ words one ++ (words m ++ words other)
three one m other = words-joined one (joined m other) ∙ ap (λ ws. words one ++ ws) (words-joined m other)

before-words : words (codes "before") ≡ codes "before" ∷ []
unfolding parts
before-words = refl

arrow-words : words (codes "=>") ≡ codes "=>" ∷ []
unfolding parts
arrow-words = refl

begins-text : (one other : List ℕ) → begins_fact (words one) ≡ true → begins_fact (words (joined one other)) ≡ true
begins-text one other h = ap begins_fact (words-joined one other) ∙ begins-joined (words one) (words other) h

pub before-is-throughout : BeforeIsThroughout
unfolding claim_of
before-is-throughout first second one other =
    let text = joined first (joined (codes "before") second) in
    let long = joined second (joined (codes "=>") first) in
    let begins = begins-text first (joined (codes "before") second) one.begins in
    let starts = begins-text second (joined (codes "=>") first) other.begins in
    (λ i. asked_by (is_some (not-throughout text begins i)) (claim_of_words (words (long_form (unwrap_or (not-throughout text begins i) text)))))
    ∙ ap (λ (t : List ℕ). asked_by false (claim_of_words (words t))) (is-long text begins)
    ∙ ap (λ (ws : List (List ℕ)). asked_by false (claim_of_words ws)) (three first (codes "before") second ∙ ap (λ ws. words first ++ (ws ++ words second)) before-words)
    ∙ ap (asked_by false) (as-before (words first) (words second) one.begins one.plain)
    ∙ sym (ap (asked_by true) (as-implies (words second) (words first) other.begins other.plain))
    ∙ sym (ap (λ (ws : List (List ℕ)). asked_by true (claim_of_words ws)) (three second (codes "=>") first ∙ ap (λ ws. words second ++ (ws ++ words first)) arrow-words))
    ∙ sym (ap (λ (t : List ℕ). asked_by true (claim_of_words (words t))) (is-long long starts))
    ∙ sym (λ i. asked_by (is_some (behind-it long i)) (claim_of_words (words (long_form (unwrap_or (behind-it long i) (joined (codes "throughout") long))))))
