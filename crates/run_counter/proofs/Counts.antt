-- What a counter counted, as entries come.
-- q is the counter, x a message's id, e and f are entries, past is a list of entries, the newest first.
use Rattle.std.proofs.Common.{ℕ, ◌≡◌, ◌+◌, Bool, true, false, cond, List, [], ◌∷◌, ◌++◌, length, reverse, count_by, Some, slice_get, refl, sym, ◌∙◌, ap, arith, append_assoc}
use Rattle.std.proofs.lemmas.List.{append-nil, length-append}
use Rattle.std.proofs.lemmas.List.Recursion.{is_count_by}
use Rattle.std.proofs.lemmas.List.Sorted.{IsPermutation-reverse, sum_by-IsPermutation}
use Rattle.chorus_ui.specs.declared.ui.Ui.{Ui}
use Rattle.chorus_ui.specs.Name.{same_ui}
use Rattle.chorus_ui.proofs.Names.{same_ui-self}
use Rattle.chorus_entry.specs.declared.entry.Entry.{Entry}
use Rattle.chorus_entry.specs.declared.id.MsgId.{MsgId}
use Rattle.chorus_entry.specs.declared.act.Act.{Act}
use Rattle.chorus_entry.specs.Act.{held_port_of}
use Rattle.chorus_entry.specs.Same.{are_same}
use Rattle.chorus_world.specs.Views.{is_on, on}
use Rattle.chorus_world.specs.AcceptedLaws.{received, received_after}
use Rattle.chorus_world.specs.SentLaws.{StandsIn}
use Rattle.chorus_world.proofs.Steps.LegalLemmas.{keeps}
use Rattle.chorus_turn.specs.Lists.{StartsWith}
use Rattle.chorus_sessions.proofs.Lists.{get-longer, get-seam}
use Rattle.run_counter.specs.Counting.{counted, counts, value}

starts-then : (a b c : List MsgId) → StartsWith a b → StartsWith b c → StartsWith a c
starts-then a b c ab bc = (bc.0 ++ ab.0, ab.1 ∙ ap (λ zs. zs ++ ab.0) bc.1 ∙ append_assoc c bc.0 ab.0)

-- What was counted stays.

starts-after : (a : Act) (xs : List MsgId) → StartsWith (received_after a xs) xs
starts-after (Act.Take q n x) xs = (x ∷ [], refl)
starts-after _ xs = ([], sym (append-nil xs))

starts-next : (q : Ui) (e : Entry) (past : List Entry) → StartsWith (counted q (e ∷ past)) (counted q past)
starts-next q e past = go (is_on (Some q) e)
  where
    go : (b : Bool) → StartsWith (received (cond b (e ∷ on q past) (on q past))) (received (on q past))
    go true = starts-after e.act (received (on q past))
    go false = ([], sym (append-nil (received (on q past))))

pub stays : (q : Ui) (newer older : List Entry) → StartsWith (counted q (newer ++ older)) (counted q older)
stays q [] older = ([], sym (append-nil (counted q older)))
stays q (e ∷ newer) older = starts-then _ _ _ (starts-next q e (newer ++ older)) (stays q newer older)

counts-last : (q : Ui) (x : MsgId) (n : ℕ) (e : Entry) (past : List Entry) → e.act ≡ Act.Take q n x → counted q (e ∷ past) ≡ counted q past ++ x ∷ []
counts-last q x n e past act =
    let line : is_on (Some q) e ≡ true = ap (λ a. are_same same_ui (Some q) (held_port_of a)) act ∙ same_ui-self q in
    ap received (keeps (is_on (Some q)) e past line) ∙ ap (λ a. received_after a (received (on q past))) act

-- what an entry hands out is counted
pub counted-by : (q : Ui) (x : MsgId) (n : ℕ) (e : Entry) (past : List Entry) → StandsIn e past → e.act ≡ Act.Take q n x → (i : ℕ) × (slice_get (counted q past) i ≡ Some x)
counted-by q x n e past s act =
    let more = stays q s.newer (e ∷ s.older) in
    let k = length (counted q s.older) in
    let here : slice_get (counted q (e ∷ s.older)) k ≡ Some x = ap (λ xs. slice_get xs k) (counts-last q x n e s.older act) ∙ get-seam (counted q s.older) x in
    (k, ap (λ xs. slice_get xs k) (ap (counted q) s.is ∙ more.1) ∙ get-longer (counted q (e ∷ s.older)) more.0 k x here)

-- How many.

same-both : (b : Bool) (xs : List MsgId) → length (cond b xs xs) ≡ length xs
same-both true xs = refl
same-both false xs = refl

took : (b : Bool) (xs : List MsgId) (x : MsgId) → length (cond b (xs ++ x ∷ []) xs) ≡ cond b (1 + length xs) (length xs)
took true xs x = length-append xs (x ∷ []) ∙ omega arith
took false xs x = refl

counts-one : (q : Ui) (a : Act) (xs : List MsgId) → length (cond (are_same same_ui (Some q) (held_port_of a)) (received_after a xs) xs) ≡ cond (counts q a) (1 + length xs) (length xs)
counts-one q (Act.Take r n x) xs = took (same_ui q r) xs x
counts-one q a xs = same-both (are_same same_ui (Some q) (held_port_of a)) xs

value-next : (q : Ui) (e : Entry) (past : List Entry) → value q (e ∷ past) ≡ cond (counts q e.act) (1 + value q past) (value q past)
value-next q e past = ap length (go (is_on (Some q) e)) ∙ counts-one q e.act (counted q past)
  where
    go : (b : Bool) → received (cond b (e ∷ on q past) (on q past)) ≡ cond b (received_after e.act (received (on q past))) (received (on q past))
    go true = refl
    go false = refl

-- the value is the number of the entries that count one, of a list with its oldest entry first
pub value-is : (q : Ui) (entries : List Entry) → count_by (λ (e : Entry). counts q e.act) entries ≡ value q (reverse entries)
value-is q entries =
    sym (is_count_by (value q) (λ (e : Entry). counts q e.act) refl (value-next q) (reverse entries)
    ∙ sum_by-IsPermutation (λ (e : Entry). cond (counts q e.act) 1 0) entries (reverse entries) (IsPermutation-reverse entries))
