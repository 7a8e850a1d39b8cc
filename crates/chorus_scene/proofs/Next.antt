-- What a line with a word is judged by.
use Rattle.std.proofs.Common.{◌≡◌, ◌≢◌, ℕ, ◌≤◌, Bool, true, false, not, ◌&&◌, ◌||◌, List, [], ◌∷◌, Option, Some, option_map, Result, Ok, refl, sym, ap, ◌∙◌, arith}
use Rattle.std.specs.Prelude.{nat_lt, ◌==◌}
use Rattle.std.proofs.lemmas.Bool.Decides.{nat_tests}
use Rattle.chorus_ui.specs.declared.kind.Kind.{Kind}
use Rattle.chorus_ui.specs.declared.kind.Kind.TheVariants as kinds
use Rattle.chorus_ui.specs.Name.{same_ui}
use Rattle.chorus_ui.specs.declared.ui.Ui.{Ui}
use Rattle.chorus_entry.specs.Members.{is_member}
use Rattle.chorus_scene.specs.declared.scenario.SetupLine.TheVariants as setups
use Rattle.chorus_lines.specs.declared.word.Word.{Word}
use Rattle.chorus_lines.specs.declared.word.Word.TheVariants as words
use Rattle.chorus_lines.specs.declared.word.Section.{Section}
use Rattle.chorus_lines.specs.declared.word.Section.TheVariants as sections
use Rattle.chorus_lines.specs.declared.word.Reason.{Reason}
use Rattle.chorus_lines.specs.declared.word.Reason.TheVariants as reasons
use Rattle.chorus_lines.specs.Text.{cut, is_text, is_skipped, fields, are_fields, number_in}
use Rattle.chorus_lines.specs.Body.{begins_a_body}
use Rattle.chorus_scene.specs.Making.{next_name}
use Rattle.chorus_scene.specs.Line.{Line, PortLine, GroupLine, cuts, is_misshapen, line_of, name_in, with_three}
use Rattle.chorus_lines.specs.Words.{word_of, may_stand}
use Rattle.chorus_scene.specs.Grammar.{State, made, next, then_after, judge_fields, is_head, unless, after, with_setup, is_far, is_no_actor, is_no_claim, is_misspelled, is_beyond, names_unknown, repeats, is_not_given, is_unscheduled}

not_head : (s : Section) → (s ≡ sections.Head → ⊥) → is_head s ≡ false
not_head sections.Head h = absurd (h refl)
not_head sections.Sites h = refl
not_head sections.Setup h = refl
not_head sections.Scripts h = refl
not_head sections.Claims h = refl
not_head sections.Schedule h = refl
not_head sections.Ended h = refl

pub next_is : (s : State) (bytes word : List ℕ) (rest : Option (List ℕ)) (w : Word) → is_text bytes ≡ true → is_skipped bytes ≡ false → (s.section ≡ sections.Head → ⊥)
    → (word, rest) ≡ cut 32 bytes → word_of s.scene.version word ≡ Some w → may_stand s.section w ≡ true → next s bytes ≡ then_after s (judge_fields s.scene w (fields (cuts w) rest))
unfolding next
next_is s bytes word rest w text skipped head e is may =
    let h = not_head s.section head in
    rw (skipped, text, h, ← e, is, may) refl

given_or_not : (s : State) (x : Line) (b : Bool) → unless b reasons.Order (Ok (after s x)) ≡ then_after s (unless b reasons.Order (Ok x))
given_or_not s x true = refl
given_or_not s x false = refl

-- a line that makes something and fails none of the other tests
made_line : (s : State) (w : Word) (fs : List (List ℕ)) (x : Line) → is_misshapen s.scene.version w fs ≡ false → line_of w fs ≡ Some x → is_no_claim s.scene x ≡ false → is_misspelled s.scene x ≡ false → is_beyond s.scene x ≡ false → names_unknown s.scene x ≡ false → repeats s.scene x ≡ false → is_unscheduled s.scene x ≡ false
    → unless (is_not_given s.scene x) reasons.Order (Ok (after s x)) ≡ then_after s (judge_fields s.scene w fs)
made_line s w fs x shape line claim spelled beyond unknown twice unscheduled = given_or_not s x (is_not_given s.scene x) ∙ ap (then_after s) (sym (rw (shape, line, claim, spelled, beyond, unknown, twice, unscheduled) refl))

whole : (n version : ℕ) (fs : List (List ℕ)) (f : List ℕ) → are_fields n fs ≡ true → (not (are_fields n fs) || (false && not (begins_a_body version f))) ≡ false
whole n version fs f h = rw h refl

few : (n m : ℕ) → n ≤ m → nat_lt m n ≡ false
few n m h = grind (arith, nat_tests)

capacity_fits : (n m k : ℕ) → n ≢ 0 → n ≤ 64 → m ≤ k → (((n == 0) || nat_lt 64 n) || nat_lt k m) ≡ false
capacity_fits n m k some h e = grind (arith, nat_tests)

pub neither : (a b : Bool) → a ≡ false → b ≡ false → (a || b) ≡ false
neither false b h k = k
neither true b h k = h

pub group_read : (s : State) (a : List ℕ) (g : Ui) (kind : Kind) (site : ℕ) → are_fields 1 (a ∷ []) ≡ true → Some g ≡ name_in kinds.Group a → g.number ≤ 4 → is_far s.scene g ≡ false → is_member g (made s.scene) ≡ false → kind ≡ kinds.Group → site ≡ g.site
    → unless (not (same_ui g (next_name s.scene.layout kind site 1 (made s.scene)))) reasons.Order (Ok (with_setup s (setups.Group site))) ≡ then_after s (judge_fields s.scene words.Group (a ∷ []))
group_read s a g kind site shape name small near new is-kind is-site =
    ap (λ k. unless (not (same_ui g (next_name s.scene.layout k site 1 (made s.scene)))) reasons.Order (Ok (with_setup s (setups.Group site)))) is-kind
    ∙ ap (λ m. unless (not (same_ui g (next_name s.scene.layout kinds.Group m 1 (made s.scene)))) reasons.Order (Ok (with_setup s (setups.Group m)))) is-site
    ∙ made_line s words.Group (a ∷ []) (GroupLine g) (whole 1 s.scene.version (a ∷ []) a shape) (ap (option_map GroupLine) (sym name)) refl refl (few g.number 4 small) near new refl

pub port_read : (s : State) (a b d : List ℕ) (u actor : Ui) (capacity : ℕ) (kind : Kind) (site number : ℕ) → are_fields 3 (a ∷ b ∷ d ∷ []) ≡ true → Some u ≡ name_in kinds.Port a → Some actor ≡ name_in kinds.Actor b → Some capacity ≡ number_in d
    → capacity ≢ 0 → capacity ≤ 64 → u.number ≤ 32 → is_far s.scene u ≡ false → is_no_actor s.scene actor ≡ false → is_member u (made s.scene) ≡ false → kind ≡ kinds.Port → site ≡ actor.site → number ≡ actor.number
    → unless (not (same_ui u (next_name s.scene.layout kind site number (made s.scene)))) reasons.Order (Ok (with_setup s (setups.Port actor capacity))) ≡ then_after s (judge_fields s.scene words.Port (a ∷ b ∷ d ∷ []))
port_read s a b d u actor capacity kind site number shape port-name actor-name count some most small near there new is-kind is-site is-number =
    let t : Result State Reason = Ok (with_setup s (setups.Port actor capacity)) in
    ap (λ k. unless (not (same_ui u (next_name s.scene.layout k site number (made s.scene)))) reasons.Order t) is-kind
    ∙ ap (λ m. unless (not (same_ui u (next_name s.scene.layout kinds.Port m number (made s.scene)))) reasons.Order t) is-site
    ∙ ap (λ n. unless (not (same_ui u (next_name s.scene.layout kinds.Port actor.site n (made s.scene)))) reasons.Order t) is-number
    ∙ made_line s words.Port (a ∷ b ∷ d ∷ []) (PortLine u actor capacity) (whole 3 s.scene.version (a ∷ b ∷ d ∷ []) d shape)
    (ap (λ o. with_three PortLine o (name_in kinds.Actor b) (number_in d)) (sym port-name) ∙ ap (λ o. with_three PortLine (Some u) o (number_in d)) (sym actor-name) ∙ ap (λ o. with_three PortLine (Some u) (Some actor) o) (sym count))
    refl refl (capacity_fits capacity u.number 32 some most small) (neither (is_far s.scene u) (is_no_actor s.scene actor) near there) new refl
