-- A line that was read has its one text: the same fields, but for a body, which is printed in the one way.
use Rattle.std.proofs.Common.{◌≡◌, ℕ, ◌^◌, ◌<◌, ◌≤◌, Bool, true, false, not, ◌&&◌, ◌||◌, List, [], ◌∷◌, ◌++◌, length, Option, Some, None, option_map, Result, Ok, refl, sym, ap, ◌∙◌, arith, subst, ◌-◌, length-append}
use Rattle.std.specs.Prelude.{codes, nat_lt, nat_le, ◌==◌, decimal, unwrap_or, if◌then◌else◌}
use Rattle.std.proofs.lemmas.Bool.Decides.{nat_tests}
use Rattle.chorus_ui.specs.declared.kind.Kind.{Kind}
use Rattle.chorus_ui.specs.declared.kind.Kind.TheVariants as kinds
use Rattle.chorus_ui.specs.declared.ui.Ui.{Ui}
use Rattle.chorus_ui.specs.Text.{name_text}
use Rattle.chorus_entry.specs.declared.dest.Dest.TheVariants as dests
use Rattle.chorus_entry.specs.declared.command.Command.{Command}
use Rattle.chorus_entry.specs.declared.command.Command.TheVariants as commands
use Rattle.chorus_scene.specs.declared.scenario.Step.TheVariants as steps
use Rattle.chorus_lines.specs.declared.word.Target.{Target}
use Rattle.chorus_lines.specs.declared.word.Target.TheVariants as targets
use Rattle.chorus_lines.specs.declared.word.Verb.{Verb}
use Rattle.chorus_lines.specs.declared.word.Verb.TheVariants as verbs
use Rattle.chorus_lines.specs.declared.word.Word.{Word}
use Rattle.chorus_lines.specs.declared.word.Word.TheVariants as words
use Rattle.chorus_lines.specs.declared.word.Reason.{Reason}
use Rattle.chorus_lines.specs.declared.word.Reason.TheVariants as reasons
use Rattle.chorus_lines.specs.Text.{are_fields, some_empty, each_byte, is_plain, number_in}
use Rattle.chorus_lines.specs.Body.{body_in, body_text, begins_a_body}
use Rattle.chorus_scene.specs.Scene.{Scene}
use Rattle.chorus_scene.specs.Line.{Line, SitesLine, PortLine, GroupLine, MemberLine, ScriptLine, CommandLine, AwaitLine, ClaimLine, ScheduleLine, StepLine, EndLine, wants, has_body, is_misshapen, field, with_two, with_three, name_in, target_kind, dest_of, line_of}
use Rattle.chorus_scene.specs.Grammar.{judge_fields, judge_line, unless, known, is_no_claim, is_misspelled, is_beyond, names_unknown, repeats, is_not_given, is_unscheduled, is_huge, is_no_capacity, most_sites, most_bytes, last_is_full, command_is_beyond}
use Rattle.chorus_scene.specs.Print.{behind, command_text, text_of}
use Rattle.chorus_scene.proofs.Spelled.{both, spelled_name}
use Rattle.chorus_lines.proofs.Numbers.{spelled_number}
use Rattle.chorus_scene.proofs.Bodies.{reprints}
use Rattle.chorus_scene.proofs.Reprint.{reprint, last_reprinted}
use Rattle.chorus_scene.proofs.Words.{verb_text, word_text}

-- what an Ok says of the tests before it
pub inv_unless : {A : Type 0} (b : Bool) (r : Reason) (g : Result A Reason) (x : A) → unless b r g ≡ Ok x → (b ≡ false) × (g ≡ Ok x)
inv_unless true r g x h = absurd cc
inv_unless false r g x h = (refl, h)

pub inv_known : {A B : Type 0} (o : Option A) (r : Reason) (f : A → Result B Reason) (x : B) → known o r f ≡ Ok x → (a : A) × (o ≡ Some a) × (f a ≡ Ok x)
inv_known None r f x h = absurd cc
inv_known (Some a) r f x h = (a, refl, h)

pub inv_map : {A B : Type 0} (f : A → B) (o : Option A) (x : B) → option_map f o ≡ Some x → (a : A) × (o ≡ Some a) × (f a ≡ x)
inv_map f None x h = absurd cc
inv_map f (Some a) x h = (a, refl, cc)

pub inv_two : {A B C : Type 0} (f : A → B → C) (o : Option A) (p : Option B) (x : C) → with_two f o p ≡ Some x → (a : A) × (b : B) × (o ≡ Some a) × (p ≡ Some b) × (f a b ≡ x)
inv_two f (Some a) (Some b) x h = (a, b, refl, refl, cc)
inv_two f (Some a) None x h = absurd cc
inv_two f None p x h = absurd cc

pub inv_three : {A B C D : Type 0} (f : A → B → C → D) (o : Option A) (p : Option B) (q : Option C) (x : D) → with_three f o p q ≡ Some x → (a : A) × (b : B) × (c : C) × (o ≡ Some a) × (p ≡ Some b) × (q ≡ Some c) × (f a b c ≡ x)
inv_three f (Some a) (Some b) (Some c) x h = (a, b, c, refl, refl, refl, cc)
inv_three f (Some a) (Some b) None x h = absurd cc
inv_three f (Some a) None q x h = absurd cc
inv_three f None p q x h = absurd cc

pub or_second : (a b : Bool) → (a || b) ≡ false → b ≡ false
or_second false b h = h
or_second true b h = absurd cc

pub or_first : (a b : Bool) → (a || b) ≡ false → a ≡ false
or_first false b h = refl
or_first true b h = absurd cc

-- none of tests 5 to 11 fails, of which 5 and 6 are those of a claim
pub record Clear (c : Scene) (x : Line) : Type 0 where
  pub claim : is_no_claim c x ≡ false
  pub spelled : is_misspelled c x ≡ false
  pub limit : is_beyond c x ≡ false
  pub unknown : names_unknown c x ≡ false
  pub twice : repeats c x ≡ false
  pub order : is_not_given c x ≡ false
  pub schedule : is_unscheduled c x ≡ false

-- a line that passes is clear, and is judged to be itself
judged_as : (c : Scene) (y x : Line) → judge_line c y ≡ Ok x → Clear c y × (y ≡ x)
judged_as c y x h =
    let r6 : Result Line Reason = unless (is_unscheduled c y) reasons.Schedule (Ok y) in
    let r5 : Result Line Reason = unless (is_not_given c y) reasons.Order r6 in
    let r4 : Result Line Reason = unless (repeats c y) reasons.Twice r5 in
    let r3 : Result Line Reason = unless (names_unknown c y) reasons.Unknown r4 in
    let r2 : Result Line Reason = unless (is_beyond c y) reasons.Limit r3 in
    let r1 : Result Line Reason = unless (is_misspelled c y) reasons.Number r2 in
    let h0 = inv_unless (is_no_claim c y) reasons.Word r1 x h in
    let h1 = inv_unless (is_misspelled c y) reasons.Number r2 x h0.1 in
    let h2 = inv_unless (is_beyond c y) reasons.Limit r3 x h1.1 in
    let h3 = inv_unless (names_unknown c y) reasons.Unknown r4 x h2.1 in
    let h4 = inv_unless (repeats c y) reasons.Twice r5 x h3.1 in
    let h5 = inv_unless (is_not_given c y) reasons.Order r6 x h4.1 in
    let h6 = inv_unless (is_unscheduled c y) reasons.Schedule (Ok y) x h5.1 in
    let same : y ≡ x = let k = h6.1 in cc in
    (record { claim = h0.0; spelled = h1.0; limit = h2.0; unknown = h3.0; twice = h4.0; order = h5.0; schedule = h6.0 }, same)

pub clear : (c : Scene) (x : Line) → judge_line c x ≡ Ok x → Clear c x
clear c x judged = (judged_as c x x judged).0

-- what an Ok says of all tests on fields
pub record Passes (c : Scene) (w : Word) (fs : List (List ℕ)) (x : Line) : Type 0 where
  pub shape : is_misshapen c.version w fs ≡ false
  pub line : line_of w fs ≡ Some x
  pub judged : judge_line c x ≡ Ok x

pub inv_fields : (c : Scene) (w : Word) (fs : List (List ℕ)) (x : Line) → judge_fields c w fs ≡ Ok x → Passes c w fs x
inv_fields c w fs x h =
    let a = inv_unless (is_misshapen c.version w fs) reasons.Word (known (line_of w fs) reasons.Number (judge_line c)) x h in
    let b = inv_known (line_of w fs) reasons.Number (judge_line c) x a.1 in
    let same = (judged_as c b.0 x b.2).1 in
    record { shape = a.0; line = b.1 ∙ ap Some same; judged = subst (λ (y : Line). judge_line c y ≡ Ok x) same b.2 }

pub fields_again : (c : Scene) (w : Word) (fs : List (List ℕ)) (x : Line) → Passes c w fs x → judge_fields c w fs ≡ Ok x
fields_again c w fs x p = let a = p.shape in let b = p.line in rw (a, b) p.judged

pub not_beyond : (c : Scene) (x : Line) → judge_line c x ≡ Ok x → is_beyond c x ≡ false
not_beyond c x h = (clear c x h).limit

-- a command was read, so the last script has room for it
pub room_of : (c : Scene) (w : Word) (fs : List (List ℕ)) (command : Command) → judge_fields c w fs ≡ Ok (CommandLine command) → last_is_full c ≡ false
room_of c w fs command h = or_first (last_is_full c) (command_is_beyond c.version command) (not_beyond c (CommandLine command) (inv_fields c w fs (CommandLine command) h).judged)

pub await_room : (c : Scene) (fs : List (List ℕ)) (port : Ui) → judge_fields c words.Await fs ≡ Ok (AwaitLine port) → last_is_full c ≡ false
await_room c fs port h = not_beyond c (AwaitLine port) (inv_fields c words.Await fs (AwaitLine port) h).judged

-- how many fields there are
shape_parts : (a h b : Bool) → (not a || (h && not b)) ≡ false → (a ≡ true) × (h ≡ true → b ≡ true)
shape_parts true true true e = (refl, λ k. refl)
shape_parts true false b e = (refl, λ k. absurd cc)
shape_parts true true false e = absurd cc
shape_parts false h b e = absurd cc

len_of : (n : ℕ) (fs : List (List ℕ)) → are_fields n fs ≡ true → length fs ≡ n
len_of n fs h = let p = both (length fs == n) (not (some_empty fs)) h in eq_of (length fs) n p.0
  where
    eq_of : (m n : ℕ) → (m == n) ≡ true → m ≡ n
    eq_of m n h = grind (arith, nat_tests)

one_of : (fs : List (List ℕ)) → length fs ≡ 1 → (a : List ℕ) × (fs ≡ a ∷ [])
one_of [] e = absurd (omega arith)
one_of (a ∷ []) e = (a, refl)
one_of (a ∷ b ∷ fs) e = absurd (omega arith)

two_of : (fs : List (List ℕ)) → length fs ≡ 2 → (a b : List ℕ) × (fs ≡ a ∷ b ∷ [])
two_of [] e = absurd (omega arith)
two_of (a ∷ []) e = absurd (omega arith)
two_of (a ∷ b ∷ []) e = (a, b, refl)
two_of (a ∷ b ∷ c ∷ fs) e = absurd (omega arith)

three_of : (fs : List (List ℕ)) → length fs ≡ 3 → (a b c : List ℕ) × (fs ≡ a ∷ b ∷ c ∷ [])
three_of [] e = absurd (omega arith)
three_of (a ∷ []) e = absurd (omega arith)
three_of (a ∷ b ∷ []) e = absurd (omega arith)
three_of (a ∷ b ∷ c ∷ []) e = (a, b, c, refl)
three_of (a ∷ b ∷ c ∷ d ∷ fs) e = absurd (omega arith)

none_of : (fs : List (List ℕ)) → length fs ≡ 0 → fs ≡ []
none_of [] e = refl
none_of (a ∷ fs) e = absurd (omega arith)

-- the fields of a line as they are printed
abbrev pub as_printed : Word → List (List ℕ) → List (List ℕ)
as_printed w fs = if has_body w then last_reprinted fs else fs

-- what is printed behind the word of a line: the line is read as before, from bytes of a text, and they are no more
pub record Again (c : Scene) (w : Word) (fs : List (List ℕ)) (x : Line) : Type 0 where
  pub passes : Passes c w (as_printed w fs) x
  pub text : text_of x ≡ word_text w ++ behind (as_printed w fs)
  pub plain : each_byte is_plain (behind (as_printed w fs)) ≡ true
  pub short : length (behind (as_printed w fs)) ≤ length (behind fs)

-- bytes of a text
pub each_append : (test : ℕ → Bool) (a b : List ℕ) → each_byte test a ≡ true → each_byte test b ≡ true → each_byte test (a ++ b) ≡ true
unfolding each_byte
each_append test [] b h k = k
each_append test (c ∷ cs) b h k =
    let p = both (test c) (each_byte test cs) h in
    let r = each_append test cs b p.1 k in
    rw (p.0, r) refl

pub and_join : (a b : Bool) → a ≡ true → b ≡ true → (a && b) ≡ true
and_join true b h k = k
and_join false b h k = h

pub each_parts : (test : ℕ → Bool) (a b : List ℕ) → each_byte test (a ++ b) ≡ true → (each_byte test a ≡ true) × (each_byte test b ≡ true)
unfolding each_byte
each_parts test [] b h = (refl, h)
each_parts test (c ∷ cs) b h =
    let p = both (test c) (each_byte test (cs ++ b)) h in
    let q = each_parts test cs b p.1 in
    (and_join (test c) (each_byte test cs) p.0 q.0, q.1)

field_parts : (f : List ℕ) (fs : List (List ℕ)) → each_byte is_plain (behind (f ∷ fs)) ≡ true → (each_byte is_plain f ≡ true) × (each_byte is_plain (behind fs) ≡ true)
unfolding each_byte
field_parts f fs h = each_parts is_plain f (behind fs) h

field_joined : (f : List ℕ) (fs : List (List ℕ)) → each_byte is_plain f ≡ true → each_byte is_plain (behind fs) ≡ true → each_byte is_plain (behind (f ∷ fs)) ≡ true
unfolding each_byte
field_joined f fs h k = each_append is_plain f (behind fs) h k

-- a body field that is printed in the one way
body_text_is : (t b : List ℕ) → body_in t ≡ Some b → body_text b ≡ reprint t
body_text_is t b h = sym (ap (λ o. body_text (unwrap_or o [])) h)

body_in_again : (t b : List ℕ) → body_in t ≡ Some b → body_in (body_text b) ≡ Some b → body_in (reprint t) ≡ body_in t
body_in_again t b h k = ap body_in (sym (body_text_is t b h)) ∙ k ∙ sym h

-- how a body field is printed
record Body (version : ℕ) (t : List ℕ) : Type 0 where
  begins : begins_a_body version (reprint t) ≡ true
  again : body_in (reprint t) ≡ body_in t
  plain : each_byte is_plain (reprint t) ≡ true
  short : length (reprint t) ≤ length t

body_of : (version : ℕ) (t b : List ℕ) → each_byte is_plain t ≡ true → begins_a_body version t ≡ true → body_in t ≡ Some b → Body version t
body_of version t b plain begins h =
    let r = reprints version t b plain begins h in
    let e = body_text_is t b h in
    record {
      begins = subst (λ xs. begins_a_body version xs ≡ true) e r.begins;
      again = body_in_again t b h r.again;
      plain = subst (λ xs. each_byte is_plain xs ≡ true) e r.plain;
      short = subst (λ xs. length xs ≤ length t) e r.short;
    }

-- the shape of a line with a body
abbrev misshapen : ℕ → ℕ → List (List ℕ) → List ℕ → Bool
misshapen n version fs body = not (are_fields n fs) || (true && not (begins_a_body version body))

begins_of : (n version : ℕ) (fs : List (List ℕ)) (t : List ℕ) → misshapen n version fs t ≡ false → begins_a_body version t ≡ true
begins_of n version fs t h = (shape_parts (are_fields n fs) true (begins_a_body version t) h).1 refl

shape_one : (version : ℕ) (r : List ℕ) → begins_a_body version r ≡ true → misshapen 1 version (r ∷ []) r ≡ false
shape_one version [] h = absurd cc
shape_one version (x ∷ xs) h = rw h refl

shape_two : (version : ℕ) (a t r : List ℕ) → misshapen 2 version (a ∷ t ∷ []) t ≡ false → begins_a_body version r ≡ true → misshapen 2 version (a ∷ r ∷ []) r ≡ false
shape_two version [] t r e h = absurd cc
shape_two version (y ∷ ys) t [] e h = absurd cc
shape_two version (y ∷ ys) t (x ∷ xs) e h = rw h refl

shape_three : (version : ℕ) (a b t r : List ℕ) → misshapen 3 version (a ∷ b ∷ t ∷ []) t ≡ false → begins_a_body version r ≡ true → misshapen 3 version (a ∷ b ∷ r ∷ []) r ≡ false
shape_three version [] b t r e h = absurd cc
shape_three version (y ∷ ys) [] t r e h = absurd cc
shape_three version (y ∷ ys) (z ∷ zs) t [] e h = absurd cc
shape_three version (y ∷ ys) (z ∷ zs) t (x ∷ xs) e h = rw h refl

-- numbers within their limits
not_huge : (n : ℕ) → is_huge n ≡ false → n < 2 ^ 64
not_huge n h = grind (arith, nat_tests)

capacity_small : (n : ℕ) → is_no_capacity n ≡ false → n < 2 ^ 64
capacity_small n h = grind (arith, nat_tests)

sites_small : (n l m : ℕ) → m ≤ 16 → ((n == 0) || nat_lt l n || nat_lt m n) ≡ false → n < 2 ^ 64
sites_small n l m k h = grind (arith, nat_tests)

most_few : (version : ℕ) → most_sites version ≤ 16
most_few version = grind (arith, nat_tests)

-- equal fields, equal texts
same_one : (word a b : List ℕ) → a ≡ b → word ++ behind (a ∷ []) ≡ word ++ behind (b ∷ [])
same_one word a b e = ap (λ t. word ++ behind (t ∷ [])) e

same_two : (word a b d e : List ℕ) → a ≡ d → b ≡ e → word ++ behind (a ∷ b ∷ []) ≡ word ++ behind (d ∷ e ∷ [])
same_two word a b d e p q = ap (λ t. word ++ behind (t ∷ b ∷ [])) p ∙ ap (λ t. word ++ behind (d ∷ t ∷ [])) q

same_three : (word a b c d e f : List ℕ) → a ≡ d → b ≡ e → c ≡ f → word ++ behind (a ∷ b ∷ c ∷ []) ≡ word ++ behind (d ∷ e ∷ f ∷ [])
same_three word a b c d e f p q r = ap (λ t. word ++ behind (t ∷ b ∷ c ∷ [])) p ∙ ap (λ t. word ++ behind (d ∷ t ∷ c ∷ [])) q ∙ ap (λ t. word ++ behind (d ∷ e ∷ t ∷ [])) r

module _ (c : Scene) (x : Line) where
  -- a line without a body is printed with the same fields
  same_fields : (w : Word) (fs : List (List ℕ)) → has_body w ≡ false → Passes c w fs x → each_byte is_plain (behind fs) ≡ true → text_of x ≡ word_text w ++ behind fs → Again c w fs x
  same_fields w fs none p plain text =
      let e : as_printed w fs ≡ fs = ap (λ b. if b then last_reprinted fs else fs) none in
      record {
        passes = subst (λ gs. Passes c w gs x) (sym e) p;
        text = subst (λ gs. text_of x ≡ word_text w ++ behind gs) (sym e) text;
        plain = subst (λ gs. each_byte is_plain (behind gs) ≡ true) (sym e) plain;
        short = subst (λ gs. length (behind gs) ≤ length (behind fs)) (sym e) (omega arith);
      }

  beyond_of : (command : Command) → CommandLine command ≡ x → judge_line c x ≡ Ok x → command_is_beyond c.version command ≡ false
  beyond_of command same judged = or_second (last_is_full c) (command_is_beyond c.version command) (ap (is_beyond c) same ∙ not_beyond c x judged)

  -- the texts of the lines without a body
  sites_is : (a : List ℕ) → Passes c words.Sites (a ∷ []) x → text_of x ≡ codes "sites" ++ behind (a ∷ [])
  sites_is a p =
      let q = inv_map SitesLine (number_in a) x p.line in
      let small = sites_small q.0 c.layout.sites (most_sites c.version) (most_few c.version) (ap (is_beyond c) q.2 ∙ not_beyond c x p.judged) in
      sym (ap text_of q.2) ∙ same_one (codes "sites") (decimal q.0) a (spelled_number a q.0 q.1 small)

  port_is : (a b d : List ℕ) → Passes c words.Port (a ∷ b ∷ d ∷ []) x → text_of x ≡ codes "port" ++ behind (a ∷ b ∷ d ∷ [])
  port_is a b d p =
      let q = inv_three PortLine (name_in kinds.Port a) (name_in kinds.Actor b) (number_in d) x p.line in
      let small = capacity_small q.2 (or_first (is_no_capacity q.2) (nat_lt 32 q.0.number) (ap (is_beyond c) q.6 ∙ not_beyond c x p.judged)) in
      sym (ap text_of q.6) ∙ same_three (codes "port") (name_text q.0) (name_text q.1) (decimal q.2) a b d (spelled_name kinds.Port a q.0 q.3) (spelled_name kinds.Actor b q.1 q.4) (spelled_number d q.2 q.5 small)

  group_is : (a : List ℕ) → Passes c words.Group (a ∷ []) x → text_of x ≡ codes "group" ++ behind (a ∷ [])
  group_is a p =
      let q = inv_map GroupLine (name_in kinds.Group a) x p.line in
      sym (ap text_of q.2) ∙ same_one (codes "group") (name_text q.0) a (spelled_name kinds.Group a q.0 q.1)

  member_is : (a b : List ℕ) → Passes c words.Member (a ∷ b ∷ []) x → text_of x ≡ codes "member" ++ behind (a ∷ b ∷ [])
  member_is a b p =
      let q = inv_two MemberLine (name_in kinds.Group a) (name_in kinds.Port b) x p.line in
      sym (ap text_of q.4) ∙ same_two (codes "member") (name_text q.0) (name_text q.1) a b (spelled_name kinds.Group a q.0 q.2) (spelled_name kinds.Port b q.1 q.3)

  script_is : (a : List ℕ) → Passes c words.Script (a ∷ []) x → text_of x ≡ codes "script" ++ behind (a ∷ [])
  script_is a p =
      let q = inv_map ScriptLine (name_in kinds.Actor a) x p.line in
      sym (ap text_of q.2) ∙ same_one (codes "script") (name_text q.0) a (spelled_name kinds.Actor a q.0 q.1)

  claim_is : (a : List ℕ) → Passes c words.Claim (a ∷ []) x → text_of x ≡ codes "claim" ++ behind (a ∷ [])
  claim_is a p = let e : ClaimLine a ≡ x = (let k : ◌≡◌ {A = Option Line} (Some (ClaimLine a)) (Some x) = p.line in cc) in sym (ap text_of e)

  await_is : (a : List ℕ) → Passes c words.Await (a ∷ []) x → text_of x ≡ codes "await" ++ behind (a ∷ [])
  await_is a p =
      let q = inv_map AwaitLine (name_in kinds.Port a) x p.line in
      sym (ap text_of q.2) ∙ same_one (codes "await") (name_text q.0) a (spelled_name kinds.Port a q.0 q.1)

  step_is : (a : List ℕ) → Passes c words.Step (a ∷ []) x → text_of x ≡ codes "step" ++ behind (a ∷ [])
  step_is a p =
      let q = inv_map (λ n. StepLine (steps.Step n)) (number_in a) x p.line in
      let small = not_huge q.0 (or_second (nat_le 131072 (length c.schedule)) (is_huge q.0) (ap (is_beyond c) q.2 ∙ not_beyond c x p.judged)) in
      sym (ap text_of q.2) ∙ same_one (codes "step") (decimal q.0) a (spelled_number a q.0 q.1 small)

  deliver_is : (a b : List ℕ) → Passes c words.Deliver (a ∷ b ∷ []) x → text_of x ≡ codes "deliver" ++ behind (a ∷ b ∷ [])
  deliver_is a b p =
      let q = inv_two (λ m n. StepLine (steps.Deliver m n)) (number_in a) (number_in b) x p.line in
      let huge = or_second (nat_le 131072 (length c.schedule)) (is_huge q.0 || is_huge q.1) (ap (is_beyond c) q.4 ∙ not_beyond c x p.judged) in
      sym (ap text_of q.4) ∙ same_two (codes "deliver") (decimal q.0) (decimal q.1) a b (spelled_number a q.0 q.2 (not_huge q.0 (or_first (is_huge q.0) (is_huge q.1) huge))) (spelled_number b q.1 q.3 (not_huge q.1 (or_second (is_huge q.0) (is_huge q.1) huge)))

  bare_is : (w : Word) (y : Line) → ◌≡◌ {A = Option Line} (Some y) (Some x) → text_of y ≡ word_text w ++ [] → text_of x ≡ word_text w ++ []
  bare_is w y same text = let e : y ≡ x = cc in sym (ap text_of e) ∙ text

  -- a command with one name
  named_is : (verb : Verb) (make : Ui → Command) (k : Kind) (a : List ℕ) → option_map CommandLine (option_map make (name_in k a)) ≡ Some x → ((u : Ui) → command_text (make u) ≡ verb_text verb ++ behind (name_text u ∷ [])) → text_of x ≡ verb_text verb ++ behind (a ∷ [])
  named_is verb make k a h text =
      let p = inv_map CommandLine (option_map make (name_in k a)) x h in
      let q = inv_map make (name_in k a) p.0 p.1 in
      sym (ap text_of p.2) ∙ sym (ap command_text q.2) ∙ text q.0 ∙ same_one (verb_text verb) (name_text q.0) a (spelled_name k a q.0 q.1)

  -- a command with two names
  two_named_is : (verb : Verb) (make : Ui → Ui → Command) (j k : Kind) (a b : List ℕ) → option_map CommandLine (with_two make (name_in j a) (name_in k b)) ≡ Some x
      → ((u v : Ui) → command_text (make u v) ≡ verb_text verb ++ behind (name_text u ∷ name_text v ∷ [])) → text_of x ≡ verb_text verb ++ behind (a ∷ b ∷ [])
  two_named_is verb make j k a b h text =
      let p = inv_map CommandLine (with_two make (name_in j a) (name_in k b)) x h in
      let q = inv_two make (name_in j a) (name_in k b) p.0 p.1 in
      sym (ap text_of p.2) ∙ sym (ap command_text q.4) ∙ text q.0 q.1 ∙ same_two (verb_text verb) (name_text q.0) (name_text q.1) a b (spelled_name j a q.0 q.2) (spelled_name k b q.1 q.3)

  new_port_is : (a b : List ℕ) → Passes c (words.Command verbs.NewPort) (a ∷ b ∷ []) x → text_of x ≡ codes "newport" ++ behind (a ∷ b ∷ [])
  new_port_is a b p =
      let r = inv_map CommandLine (with_two commands.Make (name_in kinds.Actor a) (number_in b)) x p.line in
      let q = inv_two commands.Make (name_in kinds.Actor a) (number_in b) r.0 r.1 in
      let small = capacity_small q.1 (ap (command_is_beyond c.version) q.4 ∙ beyond_of r.0 r.2 p.judged) in
      sym (ap text_of r.2) ∙ sym (ap command_text q.4) ∙ same_two (codes "newport") (name_text q.0) (decimal q.1) a b (spelled_name kinds.Actor a q.0 q.2) (spelled_number b q.1 q.3 small)

  new_group_is : (a : List ℕ) → Passes c (words.Command verbs.NewGroup) (a ∷ []) x → text_of x ≡ codes "newgroup" ++ behind (a ∷ [])
  new_group_is a p =
      let r = inv_map CommandLine (option_map commands.GroupMake (number_in a)) x p.line in
      let q = inv_map commands.GroupMake (number_in a) r.0 r.1 in
      let small = not_huge q.0 (ap (command_is_beyond c.version) q.2 ∙ beyond_of r.0 r.2 p.judged) in
      sym (ap text_of r.2) ∙ sym (ap command_text q.2) ∙ same_one (codes "newgroup") (decimal q.0) a (spelled_number a q.0 q.1 small)

  -- the lines with a body
  reply_again : (t : List ℕ) → Passes c (words.Command verbs.Reply) (t ∷ []) x → each_byte is_plain (behind (t ∷ [])) ≡ true → Again c (words.Command verbs.Reply) (t ∷ []) x
  reply_again t p plain =
      let r = inv_map CommandLine (option_map commands.Reply (body_in t)) x p.line in
      let q = inv_map commands.Reply (body_in t) r.0 r.1 in
      let f = field_parts t [] plain in
      let b = body_of c.version t q.0 f.0 (begins_of 1 c.version (t ∷ []) t p.shape) q.1 in
      record {
        passes = record { shape = shape_one c.version (reprint t) b.begins; line = ap (λ o. option_map CommandLine (option_map commands.Reply o)) b.again ∙ p.line; judged = p.judged };
        text = sym (ap text_of r.2) ∙ sym (ap command_text q.2) ∙ same_one (codes "reply") (body_text q.0) (reprint t) (body_text_is t q.0 q.1);
        plain = field_joined (reprint t) [] b.plain f.1;
        short = omega (arith, b.short, length-append (reprint t) [], length-append t []);
      }

  sent : (target : Target) (u : Ui) (body : List ℕ) → command_text (commands.Send (dest_of target u) body) ≡ verb_text (verbs.Send target) ++ behind (name_text u ∷ body_text body ∷ [])
  sent targets.Port u body = refl
  sent targets.All u body = refl
  sent targets.One u body = refl

  send_again : (target : Target) (a t : List ℕ) → Passes c (words.Command (verbs.Send target)) (a ∷ t ∷ []) x → each_byte is_plain (behind (a ∷ t ∷ [])) ≡ true → Again c (words.Command (verbs.Send target)) (a ∷ t ∷ []) x
  send_again target a t p plain =
      let make : Ui → List ℕ → Command = λ name body. commands.Send (dest_of target name) body in
      let r = inv_map CommandLine (with_two make (name_in (target_kind target) a) (body_in t)) x p.line in
      let q = inv_two make (name_in (target_kind target) a) (body_in t) r.0 r.1 in
      let f = field_parts a (t ∷ []) plain in
      let g = field_parts t [] f.1 in
      let b = body_of c.version t q.1 g.0 (begins_of 2 c.version (a ∷ t ∷ []) t p.shape) q.3 in
      record {
        passes = record { shape = shape_two c.version a t (reprint t) p.shape b.begins; line = ap (λ o. option_map CommandLine (with_two make (name_in (target_kind target) a) o)) b.again ∙ p.line; judged = p.judged };
        text = sym (ap text_of r.2) ∙ sym (ap command_text q.4) ∙ sent target q.0 q.1 ∙ same_two (verb_text (verbs.Send target)) (name_text q.0) (body_text q.1) a (reprint t) (spelled_name (target_kind target) a q.0 q.2) (body_text_is t q.1 q.3);
        plain = field_joined a (reprint t ∷ []) f.0 (field_joined (reprint t) [] b.plain g.1);
        short = omega (arith, b.short, length-append a (behind (reprint t ∷ [])), length-append a (behind (t ∷ [])), length-append (reprint t) [], length-append t []);
      }

  -- two fields and a body
  three_again : (verb : Verb) (a b t bytes : List ℕ) → has_body (words.Command verb) ≡ true → wants (words.Command verb) ≡ 3 → Passes c (words.Command verb) (a ∷ b ∷ t ∷ []) x → each_byte is_plain (behind (a ∷ b ∷ t ∷ [])) ≡ true → body_in t ≡ Some bytes
      → misshapen 3 c.version (a ∷ b ∷ t ∷ []) t ≡ false
      → (misshapen 3 c.version (a ∷ b ∷ reprint t ∷ []) (reprint t) ≡ false → is_misshapen c.version (words.Command verb) (a ∷ b ∷ reprint t ∷ []) ≡ false)
      → (body_in (reprint t) ≡ body_in t → line_of (words.Command verb) (a ∷ b ∷ reprint t ∷ []) ≡ line_of (words.Command verb) (a ∷ b ∷ t ∷ []))
      → text_of x ≡ verb_text verb ++ behind (a ∷ b ∷ reprint t ∷ []) → Again c (words.Command verb) (a ∷ b ∷ t ∷ []) x
  three_again verb a b t bytes body three p plain h shape shaped line text =
      let f = field_parts a (b ∷ t ∷ []) plain in
      let g = field_parts b (t ∷ []) f.1 in
      let k = field_parts t [] g.1 in
      let d = body_of c.version t bytes k.0 (begins_of 3 c.version (a ∷ b ∷ t ∷ []) t shape) h in
      let e : as_printed (words.Command verb) (a ∷ b ∷ t ∷ []) ≡ a ∷ b ∷ reprint t ∷ [] = ap (λ z. if z then last_reprinted (a ∷ b ∷ t ∷ []) else a ∷ b ∷ t ∷ []) body in
      record {
        passes = subst (λ gs. Passes c (words.Command verb) gs x) (sym e) (record { shape = shaped (shape_three c.version a b t (reprint t) shape d.begins); line = line d.again ∙ p.line; judged = p.judged });
        text = subst (λ gs. text_of x ≡ verb_text verb ++ behind gs) (sym e) text;
        plain = subst (λ gs. each_byte is_plain (behind gs) ≡ true) (sym e) (field_joined a (b ∷ reprint t ∷ []) f.0 (field_joined b (reprint t ∷ []) g.0 (field_joined (reprint t) [] d.plain k.1)));
        short = subst (λ gs. length (behind gs) ≤ length (behind (a ∷ b ∷ t ∷ []))) (sym e)
            (omega (arith, d.short, length-append a (behind (b ∷ reprint t ∷ [])), length-append a (behind (b ∷ t ∷ [])), length-append b (behind (reprint t ∷ [])), length-append b (behind (t ∷ [])), length-append (reprint t) [], length-append t []));
      }

  at_again : (a b t : List ℕ) → Passes c (words.Command verbs.At) (a ∷ b ∷ t ∷ []) x → each_byte is_plain (behind (a ∷ b ∷ t ∷ [])) ≡ true → Again c (words.Command verbs.At) (a ∷ b ∷ t ∷ []) x
  at_again a b t p plain =
      let make : Ui → ℕ → List ℕ → Command = λ group site body. commands.Send (dests.OneAt group site) body in
      let r = inv_map CommandLine (with_three make (name_in kinds.Group a) (number_in b) (body_in t)) x p.line in
      let q = inv_three make (name_in kinds.Group a) (number_in b) (body_in t) r.0 r.1 in
      let small = not_huge q.1 (or_first (is_huge q.1) (nat_lt (most_bytes c.version) (length q.2)) (ap (command_is_beyond c.version) q.6 ∙ beyond_of r.0 r.2 p.judged)) in
      three_again verbs.At a b t q.2 refl refl p plain q.5 p.shape (λ h. h) (λ e. ap (λ o. option_map CommandLine (with_three make (name_in kinds.Group a) (number_in b) o)) e)
      (sym (ap text_of r.2) ∙ sym (ap command_text q.6) ∙ same_three (codes "at") (name_text q.0) (decimal q.1) (body_text q.2) a b (reprint t) (spelled_name kinds.Group a q.0 q.3) (spelled_number b q.1 q.4 small) (body_text_is t q.2 q.5))

  call_again : (a b t : List ℕ) → Passes c (words.Command verbs.Call) (a ∷ b ∷ t ∷ []) x → each_byte is_plain (behind (a ∷ b ∷ t ∷ [])) ≡ true → Again c (words.Command verbs.Call) (a ∷ b ∷ t ∷ []) x
  call_again a b t p plain =
      let r = inv_map CommandLine (with_three commands.Call (name_in kinds.Port a) (name_in kinds.Port b) (body_in t)) x p.line in
      let q = inv_three commands.Call (name_in kinds.Port a) (name_in kinds.Port b) (body_in t) r.0 r.1 in
      three_again verbs.Call a b t q.2 refl refl p plain q.5 p.shape (λ h. h) (λ e. ap (λ o. option_map CommandLine (with_three commands.Call (name_in kinds.Port a) (name_in kinds.Port b) o)) e)
      (sym (ap text_of r.2) ∙ sym (ap command_text q.6) ∙ same_three (codes "call") (name_text q.0) (name_text q.1) (body_text q.2) a b (reprint t) (spelled_name kinds.Port a q.0 q.3) (spelled_name kinds.Port b q.1 q.4) (body_text_is t q.2 q.5))

  pub len : (w : Word) (fs : List (List ℕ)) → Passes c w fs x → length fs ≡ wants w
  len w fs p = len_of (wants w) fs (shape_parts (are_fields (wants w) fs) (has_body w) (begins_a_body c.version (field (wants w - 1) fs)) p.shape).0

  one : (w : Word) → wants w ≡ 1 → (fs : List (List ℕ)) → Passes c w fs x → ((a : List ℕ) → Passes c w (a ∷ []) x → each_byte is_plain (behind (a ∷ [])) ≡ true → Again c w (a ∷ []) x) → each_byte is_plain (behind fs) ≡ true → Again c w fs x
  one w n fs p go plain =
      let q = one_of fs (len w fs p ∙ n) in
      subst (λ gs. Again c w gs x) (sym q.1) (go q.0 (subst (λ gs. Passes c w gs x) q.1 p) (subst (λ gs. each_byte is_plain (behind gs) ≡ true) q.1 plain))

  two : (w : Word) → wants w ≡ 2 → (fs : List (List ℕ)) → Passes c w fs x → ((a b : List ℕ) → Passes c w (a ∷ b ∷ []) x → each_byte is_plain (behind (a ∷ b ∷ [])) ≡ true → Again c w (a ∷ b ∷ []) x) → each_byte is_plain (behind fs) ≡ true → Again c w fs x
  two w n fs p go plain =
      let q = two_of fs (len w fs p ∙ n) in
      subst (λ gs. Again c w gs x) (sym q.2) (go q.0 q.1 (subst (λ gs. Passes c w gs x) q.2 p) (subst (λ gs. each_byte is_plain (behind gs) ≡ true) q.2 plain))

  three : (w : Word) → wants w ≡ 3 → (fs : List (List ℕ)) → Passes c w fs x → ((a b d : List ℕ) → Passes c w (a ∷ b ∷ d ∷ []) x → each_byte is_plain (behind (a ∷ b ∷ d ∷ [])) ≡ true → Again c w (a ∷ b ∷ d ∷ []) x) → each_byte is_plain (behind fs) ≡ true → Again c w fs x
  three w n fs p go plain =
      let q = three_of fs (len w fs p ∙ n) in
      subst (λ gs. Again c w gs x) (sym q.3) (go q.0 q.1 q.2 (subst (λ gs. Passes c w gs x) q.3 p) (subst (λ gs. each_byte is_plain (behind gs) ≡ true) q.3 plain))

  none : (w : Word) → wants w ≡ 0 → has_body w ≡ false → (fs : List (List ℕ)) → Passes c w fs x → text_of x ≡ word_text w ++ [] → each_byte is_plain (behind fs) ≡ true → Again c w fs x
  none w n body fs p text plain =
      let e = none_of fs (len w fs p ∙ n) in
      same_fields w fs body p plain (subst (λ gs. text_of x ≡ word_text w ++ behind gs) (sym e) text)

  command_again : (verb : Verb) (fs : List (List ℕ)) → Passes c (words.Command verb) fs x → each_byte is_plain (behind fs) ≡ true → Again c (words.Command verb) fs x
  command_again (verbs.Send target) fs p plain = two (words.Command (verbs.Send target)) refl fs p (send_again target) plain
  command_again verbs.At fs p plain = three (words.Command verbs.At) refl fs p at_again plain
  command_again verbs.Call fs p plain = three (words.Command verbs.Call) refl fs p call_again plain
  command_again verbs.Retry fs p plain = none (words.Command verbs.Retry) refl refl fs p (bare_is (words.Command verbs.Retry) (CommandLine commands.Retry) p.line refl) plain
  command_again verbs.Cancel fs p plain = none (words.Command verbs.Cancel) refl refl fs p (bare_is (words.Command verbs.Cancel) (CommandLine commands.Cancel) p.line refl) plain
  command_again verbs.Reply fs p plain = one (words.Command verbs.Reply) refl fs p reply_again plain
  command_again verbs.Take fs p plain = one (words.Command verbs.Take) refl fs p (λ a q k. same_fields (words.Command verbs.Take) (a ∷ []) refl q k (named_is verbs.Take commands.Take kinds.Port a q.line (λ u. refl))) plain
  command_again verbs.Move fs p plain = two (words.Command verbs.Move) refl fs p (λ a b q k. same_fields (words.Command verbs.Move) (a ∷ b ∷ []) refl q k (two_named_is verbs.Move commands.Move kinds.Port kinds.Actor a b q.line (λ u v. refl))) plain
  command_again verbs.Delete fs p plain = one (words.Command verbs.Delete) refl fs p (λ a q k. same_fields (words.Command verbs.Delete) (a ∷ []) refl q k (named_is verbs.Delete commands.Delete kinds.Port a q.line (λ u. refl))) plain
  command_again verbs.NewPort fs p plain = two (words.Command verbs.NewPort) refl fs p (λ a b q k. same_fields (words.Command verbs.NewPort) (a ∷ b ∷ []) refl q k (new_port_is a b q)) plain
  command_again verbs.NewGroup fs p plain = one (words.Command verbs.NewGroup) refl fs p (λ a q k. same_fields (words.Command verbs.NewGroup) (a ∷ []) refl q k (new_group_is a q)) plain
  command_again verbs.Join fs p plain = two (words.Command verbs.Join) refl fs p (λ a b q k. same_fields (words.Command verbs.Join) (a ∷ b ∷ []) refl q k (two_named_is verbs.Join commands.Join kinds.Group kinds.Port a b q.line (λ u v. refl))) plain
  command_again verbs.Leave fs p plain = two (words.Command verbs.Leave) refl fs p (λ a b q k. same_fields (words.Command verbs.Leave) (a ∷ b ∷ []) refl q k (two_named_is verbs.Leave commands.Leave kinds.Group kinds.Port a b q.line (λ u v. refl))) plain

  -- each line behind the head has its one text
  pub again : (w : Word) (fs : List (List ℕ)) → Passes c w fs x → each_byte is_plain (behind fs) ≡ true → Again c w fs x
  again words.Chorus fs p plain = absurd (let e : ◌≡◌ {A = Option Line} None (Some x) = p.line in cc)
  again words.Sites fs p plain = one words.Sites refl fs p (λ a q k. same_fields words.Sites (a ∷ []) refl q k (sites_is a q)) plain
  again words.Port fs p plain = three words.Port refl fs p (λ a b d q k. same_fields words.Port (a ∷ b ∷ d ∷ []) refl q k (port_is a b d q)) plain
  again words.Group fs p plain = one words.Group refl fs p (λ a q k. same_fields words.Group (a ∷ []) refl q k (group_is a q)) plain
  again words.Member fs p plain = two words.Member refl fs p (λ a b q k. same_fields words.Member (a ∷ b ∷ []) refl q k (member_is a b q)) plain
  again words.Script fs p plain = one words.Script refl fs p (λ a q k. same_fields words.Script (a ∷ []) refl q k (script_is a q)) plain
  again (words.Command verb) fs p plain = command_again verb fs p plain
  again words.Await fs p plain = one words.Await refl fs p (λ a q k. same_fields words.Await (a ∷ []) refl q k (await_is a q)) plain
  again words.Claim fs p plain = one words.Claim refl fs p (λ a q k. same_fields words.Claim (a ∷ []) refl q k (claim_is a q)) plain
  again words.Schedule fs p plain = none words.Schedule refl refl fs p (bare_is words.Schedule ScheduleLine p.line refl) plain
  again words.Step fs p plain = one words.Step refl fs p (λ a q k. same_fields words.Step (a ∷ []) refl q k (step_is a q)) plain
  again words.Deliver fs p plain = two words.Deliver refl fs p (λ a b q k. same_fields words.Deliver (a ∷ b ∷ []) refl q k (deliver_is a b q)) plain
  again words.Drain fs p plain = none words.Drain refl refl fs p (bare_is words.Drain (StepLine steps.Drain) p.line refl) plain
  again words.End fs p plain = none words.End refl refl fs p (bare_is words.End EndLine p.line refl) plain
