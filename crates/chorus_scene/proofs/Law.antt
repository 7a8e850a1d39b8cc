-- What is printed of a scenario that was read is read as the same.
use Rattle.std.proofs.Common.{◌≡◌, ℕ, ◌+◌, ◌-◌, ◌<◌, ◌≤◌, Bool, true, false, not, cond, ltb, List, [], ◌∷◌, ◌++◌, ◌⊎◌, inl, inr, length, Option, Some, None, Result, Ok, Err, refl, sym, ap, ◌∙◌, arith, subst, length-append, length-set}
use Rattle.std.specs.Prelude.{codes, if◌then◌else◌}
use Rattle.std.specs.Str.{bytes_eq}
use Rattle.std.proofs.lemmas.List.{append-nil}
use Rattle.std.proofs.lemmas.Fmt.{decimal_digit}
use Rattle.std.proofs.lemmas.Bool.Decides.{nat_tests}
use Rattle.std.proofs.lemmas.Slice.Eq.{bytes_eq-Decides}
use Rattle.chorus_ui.specs.Name.{same_ui}
use Rattle.chorus_ui.specs.declared.layout.Layout.{Layout}
use Rattle.chorus_ui.specs.declared.ui.Ui.{Ui}
use Rattle.chorus_ui.proofs.Names.{from_same_ui}
use Rattle.chorus_entry.specs.declared.command.Command.{Command}
use Rattle.chorus_scene.specs.declared.scenario.Step.TheVariants as steps
use Rattle.chorus_lines.specs.declared.word.Verb.{Verb}
use Rattle.chorus_lines.specs.declared.word.Verb.TheVariants as verbs
use Rattle.chorus_lines.specs.declared.word.Word.{Word}
use Rattle.chorus_lines.specs.declared.word.Word.TheVariants as words
use Rattle.chorus_lines.specs.declared.word.Section.{Section}
use Rattle.chorus_lines.specs.declared.word.Section.TheVariants as sections
use Rattle.chorus_lines.specs.declared.word.Reason.{Reason}
use Rattle.chorus_lines.specs.declared.word.Reason.TheVariants as reasons
use Rattle.chorus_lines.specs.Text.{cut, lines, fields, number_in, each_byte, is_plain, is_text, is_skipped}
use Rattle.chorus_scene.specs.Scene.{Scene}
use Rattle.chorus_scene.specs.Making.{next_port, next_group}
use Rattle.chorus_scene.specs.Line.{Line, VersionLine, SitesLine, PortLine, GroupLine, MemberLine, ScriptLine, CommandLine, AwaitLine, ClaimLine, ScheduleLine, StepLine, EndLine, name_in, command_of, line_of, cuts, wants, has_body, field}
use Rattle.chorus_lines.specs.Words.{word_of, may_stand}
use Rattle.chorus_ui.specs.declared.kind.Kind.TheVariants as kinds
use Rattle.chorus_scene.specs.Grammar.{State, opening, made, or_at, judge, read_scene, is_ended, judge_fields, judge_line, judge_head, judge_word, unless, is_head, next, then_after, after, with_command, with_await, last_script, no_script, is_not_given}
use Rattle.chorus_scene.specs.Laws.{Pass, PrintedAgain}
use Rattle.chorus_scene.specs.Print.{behind, text_of, joined, printed}
use Rattle.chorus_scene.proofs.Spelled.{lacks, both, marked, uncut, cut_join, cut_all, cut_lacks, behind_fields, is_line, are_lines, lines_joined, total, total-append, total_lines, length_joined}
use Rattle.chorus_scene.proofs.Reprint.{last_reprinted, swap}
use Rattle.chorus_scene.proofs.Words.{word_text, word_spelled, word_some}
use Rattle.chorus_scene.proofs.Again.{Passes, Again, clear, as_printed, again, len, each_append, each_parts, inv_known, inv_unless, inv_map, inv_two, inv_three, inv_fields, fields_again}
use Rattle.chorus_scene.proofs.Fits.{Tested, not_so}
use Rattle.chorus_scene.proofs.Next.{next_is}
use Rattle.chorus_scene.proofs.Order.{accepted}
use Rattle.std.specs.List.{list_all}
use Rattle.chorus_scene.proofs.Keeping.{all_at, all_more, all_set}
use Rattle.chorus_scene.proofs.Waits.{waits_below, command_below, await_below}
use Rattle.chorus_scene.proofs.Sofar.{Follows, IsBeforeSchedule, texts_in, grows}

-- where a word may stand
abbrev Allowed : Word → Section → Type 0
Allowed words.Chorus sec = ⊥
Allowed words.Sites sec = sec ≡ sections.Sites
Allowed words.Port sec = sec ≡ sections.Setup
Allowed words.Group sec = sec ≡ sections.Setup
Allowed words.Member sec = sec ≡ sections.Setup
Allowed words.Script sec = (sec ≡ sections.Setup) ⊎ (sec ≡ sections.Scripts)
Allowed (words.Command verb) sec = sec ≡ sections.Scripts
Allowed words.Await sec = sec ≡ sections.Scripts
Allowed words.Claim sec = ((sec ≡ sections.Setup) ⊎ (sec ≡ sections.Scripts)) ⊎ (sec ≡ sections.Claims)
Allowed words.Schedule sec = ((sec ≡ sections.Setup) ⊎ (sec ≡ sections.Scripts)) ⊎ (sec ≡ sections.Claims)
Allowed words.Step sec = sec ≡ sections.Schedule
Allowed words.Deliver sec = sec ≡ sections.Schedule
Allowed words.Drain sec = sec ≡ sections.Schedule
Allowed words.End sec = sec ≡ sections.Schedule

allowed : (sec : Section) (w : Word) → may_stand sec w ≡ true → Allowed w sec
allowed sections.Sites words.Sites h = refl
allowed sections.Setup words.Port h = refl
allowed sections.Setup words.Group h = refl
allowed sections.Setup words.Member h = refl
allowed sections.Setup words.Script h = inl refl
allowed sections.Setup words.Claim h = inl (inl refl)
allowed sections.Setup words.Schedule h = inl (inl refl)
allowed sections.Scripts words.Script h = inr refl
allowed sections.Scripts (words.Command verb) h = refl
allowed sections.Scripts words.Await h = refl
allowed sections.Scripts words.Claim h = inl (inr refl)
allowed sections.Scripts words.Schedule h = inl (inr refl)
allowed sections.Claims words.Claim h = inr refl
allowed sections.Claims words.Schedule h = inr refl
allowed sections.Schedule words.Step h = refl
allowed sections.Schedule words.Deliver h = refl
allowed sections.Schedule words.Drain h = refl
allowed sections.Schedule words.End h = refl
allowed _ _ h = absurd cc

-- what the sections before have left empty
abbrev pub TidyIn : Section → Scene → Type 0
TidyIn sections.Head c = (c.setup ≡ []) × (c.scripts ≡ []) × (c.schedule ≡ []) × (c.claims ≡ [])
TidyIn sections.Sites c = (c.setup ≡ []) × (c.scripts ≡ []) × (c.schedule ≡ []) × (c.claims ≡ [])
TidyIn sections.Setup c = (c.scripts ≡ []) × (c.schedule ≡ []) × (c.claims ≡ [])
TidyIn sections.Scripts c = (0 < length c.scripts) × (c.schedule ≡ []) × (c.claims ≡ []) × (list_all waits_below c.scripts ≡ true)
TidyIn sections.Claims c = c.schedule ≡ []
TidyIn sections.Schedule c = Unit {0}
TidyIn sections.Ended c = Unit {0}

abbrev pub Tidy : State → Type 0
Tidy s = TidyIn s.section s.scene

pub tidy_at : (sec : Section) (s : State) → s.section ≡ sec → Tidy s → TidyIn sec s.scene
tidy_at sec s e t = rw e at t

pub early_parts : (s : State) → (s.section ≡ sections.Setup) ⊎ (s.section ≡ sections.Scripts) → Tidy s → (s.scene.schedule ≡ []) × (s.scene.claims ≡ [])
early_parts s (inl e) t = let k = tidy_at sections.Setup s e t in (k.1, k.2)
early_parts s (inr e) t = let k = tidy_at sections.Scripts s e t in (k.1, k.2)

-- all awaits are below the next command
scripts_below : (s : State) → (s.section ≡ sections.Setup) ⊎ (s.section ≡ sections.Scripts) → Tidy s → list_all waits_below s.scene.scripts ≡ true
scripts_below s (inl e) t = ap (list_all waits_below) (tidy_at sections.Setup s e t).0
scripts_below s (inr e) t = (tidy_at sections.Scripts s e t).3

before_schedule_parts : (s : State) → ((s.section ≡ sections.Setup) ⊎ (s.section ≡ sections.Scripts)) ⊎ (s.section ≡ sections.Claims) → Tidy s → IsBeforeSchedule s × (s.scene.schedule ≡ [])
before_schedule_parts s (inl e) t = let k = early_parts s e t in (inl (e, k.1), k.0)
before_schedule_parts s (inr e) t = (inr e, tidy_at sections.Claims s e t)

bare : (x y : Line) → ◌≡◌ {A = Option Line} (Some y) (Some x) → y ≡ x
bare x y h = cc

-- where the line stands, and that the sections stay tidy
abbrev pub Stays : State → Line → Type 0
Stays s x = Follows s x × Tidy (after s x)

module _ (s : State) (t : Tidy s) (fs : List (List ℕ)) (x : Line) (judged : judge_line s.scene x ≡ Ok x) where
  command_stays : (command : Command) → CommandLine command ≡ x → s.section ≡ sections.Scripts → Stays s x
  command_stays command same e =
      let k = tidy_at sections.Scripts s e t in
      let last = last_script s.scene.scripts in
      let new = with_command command last in
      let below = all_at waits_below s.scene.scripts (length s.scene.scripts - 1) no_script k.3 (omega (arith, k.0)) in
      subst (Stays s) same ((e, k.0, below), (rw (length-set s.scene.scripts (length s.scene.scripts - 1) new) k.0, k.1, k.2, all_set waits_below s.scene.scripts (length s.scene.scripts - 1) new k.3 (command_below command last below)))

  await_stays : (port : Ui) → AwaitLine port ≡ x → s.section ≡ sections.Scripts → Stays s x
  await_stays port same e =
      let k = tidy_at sections.Scripts s e t in
      let last = last_script s.scene.scripts in
      let new = with_await port last in
      let below = all_at waits_below s.scene.scripts (length s.scene.scripts - 1) no_script k.3 (omega (arith, k.0)) in
      subst (Stays s) same ((e, k.0), (rw (length-set s.scene.scripts (length s.scene.scripts - 1) new) k.0, k.1, k.2, all_set waits_below s.scene.scripts (length s.scene.scripts - 1) new k.3 (await_below port last below)))

  stays_by : (w : Word) → Allowed w s.section → line_of w fs ≡ Some x → Stays s x
  stays_by words.Chorus e h = absurd e
  stays_by words.Sites e h =
      let k = tidy_at sections.Sites s e t in
      let p = inv_map SitesLine (number_in (field 0 fs)) x h in
      subst (Stays s) p.2 ((e, k.0, k.1), (k.1, k.2, k.3))
  stays_by words.Port e h =
      let k = tidy_at sections.Setup s e t in
      let p = inv_three PortLine (name_in kinds.Port (field 0 fs)) (name_in kinds.Actor (field 1 fs)) (number_in (field 2 fs)) x h in
      let given = not_so (same_ui p.0 (next_port s.scene.layout p.1 (made s.scene))) (ap (is_not_given s.scene) p.6 ∙ (clear s.scene x judged).order) in
      subst (Stays s) p.6 ((e, k.0, from_same_ui p.0 (next_port s.scene.layout p.1 (made s.scene)) given), (k.0, k.1, k.2))
  stays_by words.Group e h =
      let k = tidy_at sections.Setup s e t in
      let p = inv_map GroupLine (name_in kinds.Group (field 0 fs)) x h in
      let given = not_so (same_ui p.0 (next_group s.scene.layout p.0.site (made s.scene))) (ap (is_not_given s.scene) p.2 ∙ (clear s.scene x judged).order) in
      subst (Stays s) p.2 ((e, k.0, from_same_ui p.0 (next_group s.scene.layout p.0.site (made s.scene)) given), (k.0, k.1, k.2))
  stays_by words.Member e h =
      let k = tidy_at sections.Setup s e t in
      let p = inv_two MemberLine (name_in kinds.Group (field 0 fs)) (name_in kinds.Port (field 1 fs)) x h in
      subst (Stays s) p.4 ((e, k.0), (k.0, k.1, k.2))
  stays_by words.Script e h =
      let p = inv_map ScriptLine (name_in kinds.Actor (field 0 fs)) x h in
      subst (Stays s) p.2 (e, (omega (arith, length-append s.scene.scripts (record { actor = p.0; commands = []; waits = [] } ∷ [])), (early_parts s e t).0, (early_parts s e t).1, all_more waits_below s.scene.scripts (record { actor = p.0; commands = []; waits = [] }) (scripts_below s e t) refl))
  stays_by (words.Command verb) e h = let p = inv_map CommandLine (command_of verb fs) x h in command_stays p.0 p.2 e
  stays_by words.Await e h = let p = inv_map AwaitLine (name_in kinds.Port (field 0 fs)) x h in await_stays p.0 p.2 e
  stays_by words.Claim e h = let k = before_schedule_parts s e t in subst (Stays s) (bare x (ClaimLine (field 0 fs)) h) (k.0, k.1)
  stays_by words.Schedule e h = subst (Stays s) (bare x ScheduleLine h) (before_schedule_parts s e t, tt)
  stays_by words.Step e h = let p = inv_map (λ n. StepLine (steps.Step n)) (number_in (field 0 fs)) x h in subst (Stays s) p.2 (e, tt)
  stays_by words.Deliver e h = let p = inv_two (λ a b. StepLine (steps.Deliver a b)) (number_in (field 0 fs)) (number_in (field 1 fs)) x h in subst (Stays s) p.4 (e, tt)
  stays_by words.Drain e h = subst (Stays s) (bare x (StepLine steps.Drain) h) (e, tt)
  stays_by words.End e h = subst (Stays s) (bare x EndLine h) (e, tt)

  stays : (w : Word) → may_stand s.section w ≡ true → line_of w fs ≡ Some x → Stays s x
  stays w may h = stays_by w (allowed s.section w may) h

-- lines
plain_lacks_one : (c : ℕ) → is_plain c ≡ true → lacks 10 c ≡ true
plain_lacks_one c h = grind (arith, nat_tests)

plain_lacks : (bytes : List ℕ) → each_byte is_plain bytes ≡ true → each_byte (lacks 10) bytes ≡ true
unfolding each_byte
plain_lacks [] h = refl
plain_lacks (c ∷ cs) h =
    let p = both (is_plain c) (each_byte is_plain cs) h in
    let a = plain_lacks_one c p.0 in
    let r = plain_lacks cs p.1 in
    rw (a, r) refl

line_by : (bytes : List ℕ) → is_skipped bytes ≡ false → each_byte is_plain bytes ≡ true → is_line bytes ≡ true
line_by [] h plain = absurd cc
line_by (c ∷ cs) h plain = plain_lacks (c ∷ cs) plain

-- what a line that passes says, that its one text says it too, and is no longer
pub record Said (s : State) (bytes : List ℕ) (u : State) : Type 0 where
  pub line : Line
  pub stays : Stays s line
  pub again : next s (text_of line) ≡ Ok (after s line)
  pub is_one : is_line (text_of line) ≡ true
  pub short : length (text_of line) ≤ length bytes
  pub so : u ≡ after s line
  pub tested : Tested s.scene line

inv_then : (s : State) (r : Result Line Reason) (u : State) → then_after s r ≡ Ok u → (x : Line) × (r ≡ Ok x) × (u ≡ after s x)
inv_then s (Ok x) u h = (x, refl, cc)
inv_then s (Err e) u h = absurd cc

-- the head
head_stays : (s : State) (v : ℕ) → s.section ≡ sections.Head → Tidy s → Stays s (VersionLine v)
head_stays s v e t = (e, tidy_at sections.Head s e t)

one_text : text_of (VersionLine 1) ≡ codes "chorus 1"
one_text = ap (λ ds. codes "chorus" ++ behind (ds ∷ [])) (decimal_digit 1 (omega arith))

two_text : text_of (VersionLine 2) ≡ codes "chorus 2"
two_text = ap (λ ds. codes "chorus" ++ behind (ds ∷ [])) (decimal_digit 2 (omega arith))

three_text : text_of (VersionLine 3) ≡ codes "chorus 3"
three_text = ap (λ ds. codes "chorus" ++ behind (ds ∷ [])) (decimal_digit 3 (omega arith))

one_again : (s : State) → s.section ≡ sections.Head → next s (codes "chorus 1") ≡ Ok (after s (VersionLine 1))
unfolding next each_byte
one_again s e = rw e refl

two_again : (s : State) → s.section ≡ sections.Head → next s (codes "chorus 2") ≡ Ok (after s (VersionLine 2))
unfolding next each_byte
two_again s e = rw e refl

three_again : (s : State) → s.section ≡ sections.Head → next s (codes "chorus 3") ≡ Ok (after s (VersionLine 3))
unfolding next each_byte
three_again s e = rw e refl

one_line : is_line (codes "chorus 1") ≡ true
unfolding each_byte
one_line = refl

two_line : is_line (codes "chorus 2") ≡ true
unfolding each_byte
two_line = refl

three_line : is_line (codes "chorus 3") ≡ true
unfolding each_byte
three_line = refl

head_said : (s u : State) (v : ℕ) (bytes : List ℕ) → s.section ≡ sections.Head → Tidy s → text_of (VersionLine v) ≡ bytes → next s bytes ≡ Ok (after s (VersionLine v)) → is_line bytes ≡ true → u ≡ after s (VersionLine v) → 1 ≤ v → v ≤ 3 → Said s bytes u
head_said s u v bytes e t text again one so from to = record {
  line = VersionLine v;
  stays = head_stays s v e t;
  again = subst (λ xs. next s xs ≡ Ok (after s (VersionLine v))) (sym text) again;
  is_one = subst (λ xs. is_line xs ≡ true) (sym text) one;
  short = subst (λ xs. length xs ≤ length bytes) (sym text) (omega arith);
  so = so;
  tested = inl (v, refl, from, to);
}

head_by : (s u : State) (bytes : List ℕ) (x : Line) (a b d : Bool) → (a ≡ true → bytes ≡ codes "chorus 1") → (b ≡ true → bytes ≡ codes "chorus 2") → (d ≡ true → bytes ≡ codes "chorus 3") → s.section ≡ sections.Head → Tidy s
    → cond a (Ok (VersionLine 1)) (cond b (Ok (VersionLine 2)) (cond d (Ok (VersionLine 3)) (Err reasons.Header))) ≡ Ok x → u ≡ after s x → Said s bytes u
head_by s u bytes x true b d one two three e t h so =
    let same : VersionLine 1 ≡ x = cc in
    subst (λ xs. Said s xs u) (sym (one refl)) (head_said s u 1 (codes "chorus 1") e t one_text (one_again s e) one_line (so ∙ ap (after s) (sym same)) (omega arith) (omega arith))
head_by s u bytes x false true d one two three e t h so =
    let same : VersionLine 2 ≡ x = cc in
    subst (λ xs. Said s xs u) (sym (two refl)) (head_said s u 2 (codes "chorus 2") e t two_text (two_again s e) two_line (so ∙ ap (after s) (sym same)) (omega arith) (omega arith))
head_by s u bytes x false false true one two three e t h so =
    let same : VersionLine 3 ≡ x = cc in
    subst (λ xs. Said s xs u) (sym (three refl)) (head_said s u 3 (codes "chorus 3") e t three_text (three_again s e) three_line (so ∙ ap (after s) (sym same)) (omega arith) (omega arith))
head_by s u bytes x false false false one two three e t h so = absurd cc

-- a line with a word
some_skipped : (word a b : List ℕ) → 0 < length word → is_skipped (word ++ a) ≡ is_skipped (word ++ b)
some_skipped [] a b some = absurd (omega arith)
some_skipped (c ∷ word) a b some = refl

-- the text behind a word, where its last field is printed in the one way
by_body : (b : Bool) (n : ℕ) (text : List ℕ) → (b ≡ true → length (fields n (Some text)) ≡ n + 1) → (r : List ℕ) × (fields n (Some r) ≡ (if b then last_reprinted (fields n (Some text)) else fields n (Some text)))
by_body true n text h = swap n text (h refl)
by_body false n text h = (text, refl)

-- one field fewer is cut off where the last one is a body
verb_cuts : (verb : Verb) → has_body (words.Command verb) ≡ true → cuts (words.Command verb) + 1 ≡ wants (words.Command verb)
verb_cuts (verbs.Send target) h = refl
verb_cuts verbs.At h = refl
verb_cuts verbs.Call h = refl
verb_cuts verbs.Reply h = refl
verb_cuts _ h = absurd cc

cuts_one_less : (w : Word) → has_body w ≡ true → cuts w + 1 ≡ wants w
cuts_one_less (words.Command verb) h = verb_cuts verb h
cuts_one_less _ h = absurd cc

nothing_printed : (b : Bool) → [] ≡ (if b then last_reprinted [] else [])
nothing_printed true = refl
nothing_printed false = refl

refield : (w : Word) (rest : Option (List ℕ)) → length (fields (cuts w) rest) ≡ wants w → (r : Option (List ℕ)) × (fields (cuts w) r ≡ as_printed w (fields (cuts w) rest))
refield w None e = (None, nothing_printed (has_body w))
refield w (Some text) e = let p = by_body (has_body w) (cuts w) text (λ h. e ∙ sym (cuts_one_less w h)) in (Some p.0, p.1)

cut_marked : (word : List ℕ) (rest : Option (List ℕ)) → each_byte (lacks 32) word ≡ true → (word, rest) ≡ cut 32 (word ++ marked 32 rest)
cut_marked word None h = sym (ap (cut 32) (append-nil word) ∙ cut_all 32 word h)
cut_marked word (Some rest) h = sym (cut_join 32 word rest h)

module _ (s u : State) (bytes word : List ℕ) (rest : Option (List ℕ)) (x : Line) (w : Word) (whole : bytes ≡ word ++ marked 32 rest) (alone : each_byte (lacks 32) word ≡ true)
    (head : s.section ≡ sections.Head → ⊥) (t : Tidy s) (plain : each_byte is_plain bytes ≡ true) (kept : is_skipped bytes ≡ false)
    (is : word_of s.scene.version word ≡ Some w) (may : may_stand s.section w ≡ true) (p : Passes s.scene w (fields (cuts w) rest) x) (so : u ≡ after s x) where
  spelled : word ≡ word_text w
  spelled = word_spelled s.scene.version word w is

  parts : (each_byte is_plain word ≡ true) × (each_byte is_plain (marked 32 rest) ≡ true)
  parts = each_parts is_plain word (marked 32 rest) (subst (λ xs. each_byte is_plain xs ≡ true) whole plain)

  said_again : Again s.scene w (fields (cuts w) rest) x
  said_again = again s.scene x w (fields (cuts w) rest) p (subst (λ xs. each_byte is_plain xs ≡ true) (sym (behind_fields (cuts w) rest)) parts.1)

  found : (r : Option (List ℕ)) × (fields (cuts w) r ≡ as_printed w (fields (cuts w) rest))
  found = refield w rest (len s.scene x w (fields (cuts w) rest) p)

  behind_word : marked 32 found.0 ≡ behind (as_printed w (fields (cuts w) rest))
  behind_word = sym (behind_fields (cuts w) found.0) ∙ ap behind found.1

  text_is : text_of x ≡ word ++ marked 32 found.0
  text_is = said_again.text ∙ ap (λ xs. xs ++ behind (as_printed w (fields (cuts w) rest))) (sym spelled) ∙ ap (λ xs. word ++ xs) (sym behind_word)

  plain_text : each_byte is_plain (word ++ marked 32 found.0) ≡ true
  plain_text = each_append is_plain word (marked 32 found.0) parts.0 (subst (λ xs. each_byte is_plain xs ≡ true) (sym behind_word) said_again.plain)

  kept_text : is_skipped (word ++ marked 32 found.0) ≡ false
  kept_text = some_skipped word (marked 32 found.0) (marked 32 rest) (subst (λ xs. 0 < length xs) (sym spelled) (word_some w)) ∙ ap is_skipped (sym whole) ∙ kept

  next_again : next s (word ++ marked 32 found.0) ≡ Ok (after s x)
  next_again = next_is s (word ++ marked 32 found.0) word found.0 w plain_text kept_text head (cut_marked word found.0 alone) is may
      ∙ ap (λ gs. then_after s (judge_fields s.scene w gs)) found.1 ∙ ap (then_after s) (fields_again s.scene w (as_printed w (fields (cuts w) rest)) x said_again.passes)

  no_longer : length (text_of x) ≤ length bytes
  no_longer =
      let a : length (text_of x) ≡ length word + length (behind (as_printed w (fields (cuts w) rest))) = ap length (said_again.text ∙ ap (λ xs. xs ++ behind (as_printed w (fields (cuts w) rest))) (sym spelled)) ∙ length-append word (behind (as_printed w (fields (cuts w) rest))) in
      let b : length bytes ≡ length word + length (marked 32 rest) = ap length whole ∙ length-append word (marked 32 rest) in
      let d : length (behind (fields (cuts w) rest)) ≡ length (marked 32 rest) = ap length (behind_fields (cuts w) rest) in
      omega (arith, said_again.short)

  pub word_said : Said s bytes u
  word_said = record {
    line = x;
    stays = stays s t (fields (cuts w) rest) x p.judged w may p.line;
    again = subst (λ xs. next s xs ≡ Ok (after s x)) (sym text_is) next_again;
    is_one = subst (λ xs. is_line xs ≡ true) (sym text_is) (line_by (word ++ marked 32 found.0) kept_text plain_text);
    short = no_longer;
    so = so;
    tested = inr (record { word = w; text = word; fields = fields (cuts w) rest; is = is; passes = p });
  }

worded : (s u : State) (bytes : List ℕ) (x : Line) → (s.section ≡ sections.Head → ⊥) → Tidy s → each_byte is_plain bytes ≡ true → is_skipped bytes ≡ false → judge_word s (cut 32 bytes) ≡ Ok x → u ≡ after s x → Said s bytes u
worded s u bytes x head t plain kept h so =
    let word = (cut 32 bytes).0 in
    let rest = (cut 32 bytes).1 in
    let k = inv_known (word_of s.scene.version word) reasons.Word (λ w. unless (not (may_stand s.section w)) reasons.Order (judge_fields s.scene w (fields (cuts w) rest))) x h in
    let m = inv_unless (not (may_stand s.section k.0)) reasons.Order (judge_fields s.scene k.0 (fields (cuts k.0) rest)) x k.2 in
    word_said s u bytes word rest x k.0 (uncut 32 bytes) (cut_lacks 32 bytes) head t plain kept k.1 (not_so (may_stand s.section k.0) m.0) (inv_fields s.scene k.0 (fields (cuts k.0) rest) x m.1) so

head_or_not : (s : Section) → (s ≡ sections.Head) ⊎ ((is_head s ≡ false) × (s ≡ sections.Head → ⊥))
head_or_not sections.Head = inl refl
head_or_not sections.Sites = inr (refl, λ e. absurd cc)
head_or_not sections.Setup = inr (refl, λ e. absurd cc)
head_or_not sections.Scripts = inr (refl, λ e. absurd cc)
head_or_not sections.Claims = inr (refl, λ e. absurd cc)
head_or_not sections.Schedule = inr (refl, λ e. absurd cc)
head_or_not sections.Ended = inr (refl, λ e. absurd cc)

bytes_said : (s u : State) (bytes : List ℕ) (x : Line) → Tidy s → each_byte is_plain bytes ≡ true → is_skipped bytes ≡ false → (s.section ≡ sections.Head) ⊎ ((is_head s.section ≡ false) × (s.section ≡ sections.Head → ⊥))
    → (if is_head s.section then judge_head bytes else judge_word s (cut 32 bytes)) ≡ Ok x → u ≡ after s x → Said s bytes u
bytes_said s u bytes x t plain kept (inl e) h so =
    let g : judge_head bytes ≡ Ok x = rw e at h in
    head_by s u bytes x (bytes_eq bytes (codes "chorus 1")) (bytes_eq bytes (codes "chorus 2")) (bytes_eq bytes (codes "chorus 3"))
    (bytes_eq-Decides bytes (codes "chorus 1")).0 (bytes_eq-Decides bytes (codes "chorus 2")).0 (bytes_eq-Decides bytes (codes "chorus 3")).0 e t g so
bytes_said s u bytes x t plain kept (inr e) h so =
    let n = e.0 in
    let g : judge_word s (cut 32 bytes) ≡ Ok x = rw n at h in
    worded s u bytes x e.1 t plain kept g so

pub line_said : (s u : State) (bytes : List ℕ) (k p : Bool) → is_skipped bytes ≡ k → is_text bytes ≡ p → Tidy s → next s bytes ≡ Ok u → (s ≡ u) ⊎ Said s bytes u
unfolding next
line_said s u bytes true true e f t h = let g : ◌≡◌ {A = Result State Reason} (Ok s) (Ok u) = rw (e, f) at h in inl cc
line_said s u bytes true false e f t h = absurd (let g : ◌≡◌ {A = Result State Reason} (Err reasons.Text) (Ok u) = rw (e, f) at h in cc)
line_said s u bytes false false e f t h = absurd (let g : ◌≡◌ {A = Result State Reason} (Err reasons.Text) (Ok u) = rw (e, f) at h in cc)
line_said s u bytes false true e f t h =
    let g : then_after s (if is_head s.section then judge_head bytes else judge_word s (cut 32 bytes)) ≡ Ok u = rw (e, f) at h in
    let i = inv_then s (if is_head s.section then judge_head bytes else judge_word s (cut 32 bytes)) u g in
    inr (bytes_said s u bytes i.0 t f e (head_or_not s.section) i.1 i.2)

-- all lines
pass_more : (s t u : State) (front : List (List ℕ)) (line : List ℕ) → Pass s front t → next t line ≡ Ok u → Pass s (front ++ line ∷ []) u
pass_more s t u [] line h e = (u, subst (λ v. next v line ≡ Ok u) (sym h) e, refl)
pass_more s t u (first ∷ front) line h e = (h.0, h.1, pass_more h.0 t u front line h.2 e)

lines_more : (ls : List (List ℕ)) (line : List ℕ) → are_lines ls ≡ true → is_line line ≡ true → are_lines (ls ++ line ∷ []) ≡ true
lines_more [] line h e = rw e refl
lines_more (first ∷ ls) line h e =
    let p = both (is_line first) (are_lines ls) h in
    let r = lines_more ls line p.1 e in
    rw (p.0, r) refl

-- the lines that a scenario so far is printed as say that scenario, and are no longer than those that were read
pub record Prints (l : Layout) (s : State) (room : ℕ) : Type 0 where
  pub layout : s.scene.layout ≡ l
  pub tidy : Tidy s
  pub pass : Pass (opening l) (texts_in s.section s.scene) s
  pub each : are_lines (texts_in s.section s.scene) ≡ true
  pub short : total (texts_in s.section s.scene) ≤ room

layout_stays : (s : State) (x : Line) → (after s x).scene.layout ≡ s.scene.layout
layout_stays s (VersionLine v) = refl
layout_stays s (SitesLine n) = refl
layout_stays s (PortLine u actor capacity) = refl
layout_stays s (GroupLine u) = refl
layout_stays s (MemberLine group port) = refl
layout_stays s (ScriptLine actor) = refl
layout_stays s (CommandLine command) = refl
layout_stays s (AwaitLine port) = refl
layout_stays s (ClaimLine text) = refl
layout_stays s ScheduleLine = refl
layout_stays s (StepLine step) = refl
layout_stays s EndLine = refl

one_more : (l : Layout) (s u : State) (room : ℕ) (line : List ℕ) → Prints l s room → (s ≡ u) ⊎ Said s line u → Prints l u (room + (length line + 1))
one_more l s u room line h (inl e) = subst (λ v. Prints l v (room + (length line + 1))) e (record { layout = h.layout; tidy = h.tidy; pass = h.pass; each = h.each; short = omega (arith, h.short) })
one_more l s u room line h (inr d) =
    let g = grows s d.line d.stays.0 in
    subst (λ v. Prints l v (room + (length line + 1))) (sym d.so) (record {
      layout = layout_stays s d.line ∙ h.layout;
      tidy = d.stays.1;
      pass = subst (λ ls. Pass (opening l) ls (after s d.line)) (sym g) (pass_more (opening l) s (after s d.line) (texts_in s.section s.scene) (text_of d.line) h.pass d.again);
      each = subst (λ ls. are_lines ls ≡ true) (sym g) (lines_more (texts_in s.section s.scene) (text_of d.line) h.each d.is_one);
      short = subst (λ ls. total ls ≤ room + (length line + 1)) (sym g) (omega (arith, h.short, d.short, total-append (texts_in s.section s.scene) (text_of d.line ∷ [])));
    })

prints : (l : Layout) (s t : State) (room : ℕ) (lines : List (List ℕ)) → Prints l s room → Pass s lines t → Prints l t (room + total lines)
prints l s t room [] h e = subst (λ v. Prints l v (room + 0)) e (record { layout = h.layout; tidy = h.tidy; pass = h.pass; each = h.each; short = omega (arith, h.short) })
prints l s t room (line ∷ lines) h e =
    let more = prints l e.0 t (room + (length line + 1)) lines (one_more l s e.0 room line h (line_said s e.0 line (is_skipped line) (is_text line) refl refl h.tidy e.1)) e.2 in
    subst (Prints l t) (omega arith) more

-- what Ok says of the lines
inv_or_at : (n : ℕ) (r : Result State Reason) (f : State → Result Scene (ℕ × ℕ)) (c : Scene) → or_at n r f ≡ Ok c → (t : State) × (r ≡ Ok t) × (f t ≡ Ok c)
inv_or_at n (Ok t) f c h = (t, refl, h)
inv_or_at n (Err e) f c h = absurd cc

ended_or_not : (b : Bool) (d c : Scene) (f : ℕ × ℕ) → cond b (Ok d) (Err f) ≡ Ok c → (b ≡ true) × (d ≡ c)
ended_or_not true d c f h = (refl, cc)
ended_or_not false d c f h = absurd cc

pub inv_judge : (n : ℕ) (s : State) (lines : List (List ℕ)) (c : Scene) → judge n s lines ≡ Ok c → (t : State) × Pass s lines t × (is_ended t.section ≡ true) × (t.scene ≡ c)
unfolding judge
inv_judge n s [] c h = let p = ended_or_not (is_ended s.section) s.scene c (n, 9) h in (s, refl, p.0, p.1)
inv_judge n s (line ∷ lines) c h =
    let p = inv_or_at n (next s line) (λ t. judge (n + 1) t lines) c h in
    let q = inv_judge (n + 1) p.0 lines c p.2 in
    (q.0, (p.0, p.1, q.1), q.2, q.3)

inv_read : (b : Bool) (r : Result Scene (ℕ × ℕ)) (c : Scene) → cond b (Err (0, 6)) r ≡ Ok c → (b ≡ false) × (r ≡ Ok c)
inv_read true r c h = absurd cc
inv_read false r c h = (refl, h)

pub inv_text : (l : Layout) (text : List ℕ) (c : Scene) → read_scene l text ≡ Ok c → (ltb 4194304 (length text) ≡ false) × (judge 1 (opening l) (lines text) ≡ Ok c)
unfolding read_scene
inv_text l text c h = inv_read (ltb 4194304 (length text)) (judge 1 (opening l) (lines text)) c h

pub section_ended : (s : Section) → is_ended s ≡ true → s ≡ sections.Ended
section_ended sections.Ended h = refl
section_ended _ h = absurd cc

within : (n : ℕ) → ltb 4194304 n ≡ false → n ≤ 4194304
within n h = grind (arith, nat_tests)

-- a scenario has a head
some_lines : (ls : List (List ℕ)) (rest : List ℕ) (ls' : List (List ℕ)) → ls ≡ rest ∷ ls' → length (joined ls) + 1 ≡ total ls
some_lines ls rest ls' e = subst (λ xs. length (joined xs) + 1 ≡ total xs) (sym e) (length_joined rest ls')

pub printed_again : PrintedAgain
printed_again l text c h =
    let i = inv_text l text c h in
    let p = inv_judge 1 (opening l) (lines text) c i.1 in
    let t = p.0 in
    let e = section_ended t.section p.2 in
    let q = prints l (opening l) t 0 (lines text) (record { layout = refl; tidy = (refl, refl, refl, refl); pass = refl; each = refl; short = omega arith }) p.1 in
    let same : texts_in t.section t.scene ≡ texts_in sections.Ended c = ap (λ s. texts_in s t.scene) e ∙ ap (texts_in sections.Ended) p.3 in
    let each = subst (λ ls. are_lines ls ≡ true) same q.each in
    let pass = subst (λ ls. Pass (opening l) ls t) (same ∙ sym (lines_joined (texts_in sections.Ended c) each)) q.pass in
    let short : total (texts_in sections.Ended c) ≤ 0 + total (lines text) = subst (λ ls. total ls ≤ 0 + total (lines text)) same q.short in
    let long : length (printed c) + 1 ≡ total (texts_in sections.Ended c) = some_lines (texts_in sections.Ended c) _ _ refl in
    let all : total (lines text) ≤ length text + 1 = total_lines text in
    let less : length (printed c) ≤ length text = omega (arith, short, long, all) in
    let kept : c.layout ≡ l = ap (λ (d : Scene). d.layout) (sym p.3) ∙ q.layout in
    let again : read_scene l (printed c) ≡ Ok c = accepted l (printed c) t (omega (arith, less, within (length text) i.0)) pass p.2 ∙ ap Ok p.3 in
    (kept, less, subst (λ (k : Layout). read_scene k (printed c) ≡ Ok c) (sym kept) again)
