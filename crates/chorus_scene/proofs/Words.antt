-- A word that was read is spelled in one way.
use Rattle.std.proofs.Common.{◌≡◌, ℕ, ◌<◌, Bool, true, false, cond, List, length, Option, Some, None, option_map, refl, sym, ap, ◌∙◌, arith, subst}
use Rattle.std.specs.Prelude.{codes, nat_le, if◌then◌else◌}
use Rattle.std.specs.Str.{bytes_eq}
use Rattle.std.proofs.lemmas.Slice.Eq.{bytes_eq-Decides}
use Rattle.chorus_lines.specs.declared.word.Target.TheVariants as targets
use Rattle.chorus_lines.specs.declared.word.Verb.{Verb}
use Rattle.chorus_lines.specs.declared.word.Verb.TheVariants as verbs
use Rattle.chorus_lines.specs.declared.word.Word.{Word}
use Rattle.chorus_lines.specs.declared.word.Word.TheVariants as words
use Rattle.chorus_lines.specs.Words.{verb_of, word_of}

abbrev pub verb_text : Verb → List ℕ
verb_text (verbs.Send targets.Port) = codes "send"
verb_text (verbs.Send targets.All) = codes "all"
verb_text (verbs.Send targets.One) = codes "one"
verb_text verbs.At = codes "at"
verb_text verbs.Call = codes "call"
verb_text verbs.Retry = codes "retry"
verb_text verbs.Cancel = codes "cancel"
verb_text verbs.Reply = codes "reply"
verb_text verbs.Take = codes "take"
verb_text verbs.Move = codes "move"
verb_text verbs.NewPort = codes "newport"
verb_text verbs.NewGroup = codes "newgroup"
verb_text verbs.Join = codes "join"
verb_text verbs.Leave = codes "leave"
verb_text verbs.Delete = codes "delete"

abbrev pub word_text : Word → List ℕ
word_text words.Chorus = codes "chorus"
word_text words.Sites = codes "sites"
word_text words.Port = codes "port"
word_text words.Group = codes "group"
word_text words.Member = codes "member"
word_text words.Script = codes "script"
word_text words.Await = codes "await"
word_text words.Claim = codes "claim"
word_text words.Schedule = codes "schedule"
word_text words.Step = codes "step"
word_text words.Deliver = codes "deliver"
word_text words.Drain = codes "drain"
word_text words.End = codes "end"
word_text (words.Command verb) = verb_text verb

module _ {W : Type 0} (spelling : W → List ℕ) (text : List ℕ) (w : W) where
  -- one test of a chain: it holds, and the text is this word's, or the rest of the chain says
  step : (b : Bool) (a : List ℕ) (x : W) (r : Option W) → (b ≡ true → text ≡ a) → spelling x ≡ a → cond b (Some x) r ≡ Some w → (r ≡ Some w → text ≡ spelling w) → text ≡ spelling w
  step true a x r same is h rest = let e : x ≡ w = cc in same refl ∙ sym is ∙ ap spelling e
  step false a x r same is h rest = rest h

same_text : (xs ys : List ℕ) → bytes_eq xs ys ≡ true → xs ≡ ys
same_text xs ys h = (bytes_eq-Decides xs ys).0 h

delete_by : (two b : Bool) (text : List ℕ) (w : Verb) → (b ≡ true → text ≡ codes "delete") → cond b (cond two (Some verbs.Delete) None) None ≡ Some w → text ≡ verb_text w
delete_by true true text w same h = let e : verbs.Delete ≡ w = cc in same refl ∙ ap verb_text e
delete_by false true text w same h = absurd cc
delete_by two false text w same h = absurd cc

pub verb_spelled : (version : ℕ) (text : List ℕ) (w : Verb) → verb_of version text ≡ Some w → text ≡ verb_text w
unfolding verb_of
verb_spelled version text w h0 =
    step verb_text text w (bytes_eq text (codes "send")) (codes "send") (verbs.Send targets.Port) _ (same_text text (codes "send")) refl h0 (λ h1.
    step verb_text text w (bytes_eq text (codes "all")) (codes "all") (verbs.Send targets.All) _ (same_text text (codes "all")) refl h1 (λ h2.
    step verb_text text w (bytes_eq text (codes "one")) (codes "one") (verbs.Send targets.One) _ (same_text text (codes "one")) refl h2 (λ h3.
    step verb_text text w (bytes_eq text (codes "at")) (codes "at") verbs.At _ (same_text text (codes "at")) refl h3 (λ h4.
    step verb_text text w (bytes_eq text (codes "call")) (codes "call") verbs.Call _ (same_text text (codes "call")) refl h4 (λ h5.
    step verb_text text w (bytes_eq text (codes "retry")) (codes "retry") verbs.Retry _ (same_text text (codes "retry")) refl h5 (λ h6.
    step verb_text text w (bytes_eq text (codes "cancel")) (codes "cancel") verbs.Cancel _ (same_text text (codes "cancel")) refl h6 (λ h7.
    step verb_text text w (bytes_eq text (codes "reply")) (codes "reply") verbs.Reply _ (same_text text (codes "reply")) refl h7 (λ h8.
    step verb_text text w (bytes_eq text (codes "take")) (codes "take") verbs.Take _ (same_text text (codes "take")) refl h8 (λ h9.
    step verb_text text w (bytes_eq text (codes "move")) (codes "move") verbs.Move _ (same_text text (codes "move")) refl h9 (λ h10.
    step verb_text text w (bytes_eq text (codes "newport")) (codes "newport") verbs.NewPort _ (same_text text (codes "newport")) refl h10 (λ h11.
    step verb_text text w (bytes_eq text (codes "newgroup")) (codes "newgroup") verbs.NewGroup _ (same_text text (codes "newgroup")) refl h11 (λ h12.
    step verb_text text w (bytes_eq text (codes "join")) (codes "join") verbs.Join _ (same_text text (codes "join")) refl h12 (λ h13.
    step verb_text text w (bytes_eq text (codes "leave")) (codes "leave") verbs.Leave _ (same_text text (codes "leave")) refl h13 (λ h14.
    delete_by (nat_le 2 version) (bytes_eq text (codes "delete")) text w (same_text text (codes "delete")) h14))))))))))))))

inv_command : (version : ℕ) (text : List ℕ) (o : Option Verb) (w : Word) → ((v : Verb) → o ≡ Some v → text ≡ verb_text v) → option_map words.Command o ≡ Some w → text ≡ word_text w
inv_command version text None w spelled h = absurd cc
inv_command version text (Some v) w spelled h = let e : words.Command v ≡ w = cc in spelled v refl ∙ ap word_text e

-- a word from version 3 on
later_by : (x : Word) (three b : Bool) (text : List ℕ) (w : Word) (r : Option Word) → (b ≡ true → text ≡ word_text x) → cond b (cond three (Some x) None) r ≡ Some w → (r ≡ Some w → text ≡ word_text w) → text ≡ word_text w
later_by x true true text w r same h rest = let e : x ≡ w = cc in same refl ∙ ap word_text e
later_by x false true text w r same h rest = absurd cc
later_by x three false text w r same h rest = rest h

pub word_spelled : (version : ℕ) (text : List ℕ) (w : Word) → word_of version text ≡ Some w → text ≡ word_text w
unfolding word_of
word_spelled version text w h0 =
    step word_text text w (bytes_eq text (codes "chorus")) (codes "chorus") words.Chorus _ (same_text text (codes "chorus")) refl h0 (λ h1.
    step word_text text w (bytes_eq text (codes "sites")) (codes "sites") words.Sites _ (same_text text (codes "sites")) refl h1 (λ h2.
    step word_text text w (bytes_eq text (codes "port")) (codes "port") words.Port _ (same_text text (codes "port")) refl h2 (λ h3.
    step word_text text w (bytes_eq text (codes "group")) (codes "group") words.Group _ (same_text text (codes "group")) refl h3 (λ h4.
    step word_text text w (bytes_eq text (codes "member")) (codes "member") words.Member _ (same_text text (codes "member")) refl h4 (λ h5.
    step word_text text w (bytes_eq text (codes "script")) (codes "script") words.Script _ (same_text text (codes "script")) refl h5 (λ h6.
    step word_text text w (bytes_eq text (codes "schedule")) (codes "schedule") words.Schedule _ (same_text text (codes "schedule")) refl h6 (λ h7.
    step word_text text w (bytes_eq text (codes "step")) (codes "step") words.Step _ (same_text text (codes "step")) refl h7 (λ h8.
    step word_text text w (bytes_eq text (codes "deliver")) (codes "deliver") words.Deliver _ (same_text text (codes "deliver")) refl h8 (λ h9.
    step word_text text w (bytes_eq text (codes "drain")) (codes "drain") words.Drain _ (same_text text (codes "drain")) refl h9 (λ h10.
    step word_text text w (bytes_eq text (codes "end")) (codes "end") words.End _ (same_text text (codes "end")) refl h10 (λ h11.
    later_by words.Claim (nat_le 3 version) (bytes_eq text (codes "claim")) text w _ (same_text text (codes "claim")) h11 (λ h12.
    later_by words.Await (nat_le 3 version) (bytes_eq text (codes "await")) text w _ (same_text text (codes "await")) h12 (λ h13.
    inv_command version text (verb_of version text) w (verb_spelled version text) h13)))))))))))))

verb_some : (v : Verb) → 0 < length (verb_text v)
verb_some (verbs.Send targets.Port) = omega arith
verb_some (verbs.Send targets.All) = omega arith
verb_some (verbs.Send targets.One) = omega arith
verb_some verbs.At = omega arith
verb_some verbs.Call = omega arith
verb_some verbs.Retry = omega arith
verb_some verbs.Cancel = omega arith
verb_some verbs.Reply = omega arith
verb_some verbs.Take = omega arith
verb_some verbs.Move = omega arith
verb_some verbs.NewPort = omega arith
verb_some verbs.NewGroup = omega arith
verb_some verbs.Join = omega arith
verb_some verbs.Leave = omega arith
verb_some verbs.Delete = omega arith

pub word_some : (w : Word) → 0 < length (word_text w)
word_some words.Chorus = omega arith
word_some words.Sites = omega arith
word_some words.Port = omega arith
word_some words.Group = omega arith
word_some words.Member = omega arith
word_some words.Script = omega arith
word_some words.Await = omega arith
word_some words.Claim = omega arith
word_some words.Schedule = omega arith
word_some words.Step = omega arith
word_some words.Deliver = omega arith
word_some words.Drain = omega arith
word_some words.End = omega arith
word_some (words.Command v) = verb_some v

-- delete is a word from version 2 on, claim and await from version 3 on
of_two : (b : Bool) → option_map words.Command (if b then Some verbs.Delete else None) ≡ Some (words.Command verbs.Delete) → b ≡ true
of_two true h = refl
of_two false h = absurd (let e : ◌≡◌ {A = Option Word} None (Some (words.Command verbs.Delete)) = h in cc)

pub delete_from_two : (version : ℕ) (text : List ℕ) → word_of version text ≡ Some (words.Command verbs.Delete) → nat_le 2 version ≡ true
unfolding word_of verb_of
delete_from_two version text h =
    let here : word_of version (codes "delete") ≡ Some (words.Command verbs.Delete) = subst (λ xs. word_of version xs ≡ Some (words.Command verbs.Delete)) (word_spelled version text (words.Command verbs.Delete) h) h in
    of_two (nat_le 2 version) here

of_three : (w : Word) (b : Bool) → ◌≡◌ {A = Option Word} (if b then Some w else None) (Some w) → b ≡ true
of_three w true h = refl
of_three w false h = absurd cc

pub claim_from_three : (version : ℕ) (text : List ℕ) → word_of version text ≡ Some words.Claim → nat_le 3 version ≡ true
unfolding word_of
claim_from_three version text h =
    let here : word_of version (codes "claim") ≡ Some words.Claim = subst (λ xs. word_of version xs ≡ Some words.Claim) (word_spelled version text words.Claim h) h in
    of_three words.Claim (nat_le 3 version) here

pub await_from_three : (version : ℕ) (text : List ℕ) → word_of version text ≡ Some words.Await → nat_le 3 version ≡ true
unfolding word_of
await_from_three version text h =
    let here : word_of version (codes "await") ≡ Some words.Await = subst (λ xs. word_of version xs ≡ Some words.Await) (word_spelled version text words.Await h) h in
    of_three words.Await (nat_le 3 version) here
