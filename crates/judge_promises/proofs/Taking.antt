-- What an entry that breaks no promise is known to have.
use Rattle.std.proofs.Common.{ℕ, ◌≡◌, ◌+◌, ◌<◌, nat_le, not, Bool, true, false, ◌&&◌, cond, List, [], ◌∷◌, ◌++◌, length, reverse, Option, Some, None, is_none, refl, sym, ◌∙◌, ap, subst, arith}
use Rattle.std.specs.List.{slice_get}
use Rattle.std.specs.Option.{option_or}
use Rattle.std.proofs.lemmas.Bool.{and_from, and_parts, false≢true, leb-true}
use Rattle.std.proofs.lemmas.List.{reverse-append}
use Rattle.std.proofs.lemmas.Option.{slice_get_within}
use Rattle.chorus_ui.specs.declared.ui.Ui.{Ui}
use Rattle.chorus_ui.specs.declared.layout.Layout.{Layout}
use Rattle.chorus_ui.specs.declared.limits.TheConstants.{PENDING_LIMIT}
use Rattle.chorus_entry.specs.declared.entry.Entry.{Entry}
use Rattle.chorus_entry.specs.declared.id.MsgId.{MsgId}
use Rattle.chorus_entry.specs.declared.act.Act.{Act}
use Rattle.chorus_entry.specs.declared.act.Act.TheVariants.{Make, Take}
use Rattle.chorus_entry.specs.Act.{held_port_of}
use Rattle.chorus_entry.specs.MsgId.{same_id}
use Rattle.chorus_entry.specs.Same.{are_same}
use Rattle.chorus_world.specs.Ports.{PortState, fate, is_held_at, is_made}
use Rattle.chorus_world.specs.Views.{is_on, on}
use Rattle.chorus_world.proofs.Ports.LineLemmas.{id_is, none_some}
use Rattle.chorus_world.proofs.Steps.LegalLemmas.{on_is}
use Rattle.chorus_checker.specs.Rules.{act_number}
use Rattle.checker_ledger.specs.Ports.{MakeFits, TakeFits}
use Rattle.judge_promises.specs.declared.breach.Breach.{Breach}
use Rattle.judge_promises.specs.Breaches.{breach, breach_by, failing, keeps_promises}
use Rattle.judge_promises.specs.Conditions.{conditions, timely}
use Rattle.judge_promises.specs.Terms.{is_read, port_of, read, waits_first}
use Rattle.judge_promises.proofs.Keeping.{AreTrue}

failed : {P : Type 0} → (b : Breach) → Some b ≡ None → P
failed b h = none_some b (sym h)

-- none of the conditions fails
none-case : (rule n : ℕ) (b : Bool) (bs : List Bool) → (failing rule (n + 1) bs ≡ None → AreTrue bs) → failing rule n (b ∷ bs) ≡ None → AreTrue (b ∷ bs)
none-case rule n true bs more h = (refl, more h)
none-case rule n false bs more h = failed (record { rule = rule; condition = n }) h

pub none-failing : (rule n : ℕ) (bs : List Bool) → failing rule n bs ≡ None → AreTrue bs
none-failing rule n [] h = tt
none-failing rule n (b ∷ bs) h = none-case rule n b bs (none-failing rule (n + 1) bs) h

or-second : (o m : Option Breach) → option_or o m ≡ None → m ≡ None
or-second None m h = h
or-second (Some b) m h = failed b h

-- an entry that is read and breaks none has the conditions of its act
pub holds : (l : Layout) (past : List Entry) (e : Entry) → breach_by l past e ≡ None → is_read e.act ≡ true → AreTrue (conditions l (read past) e.place e.seat e.act)
holds l past e h r =
    let none : breach l (read past) e ≡ None = ap (λ b. cond b (breach l (read past) e) None) (sym r) ∙ h in
    none-failing (act_number e.act) 1 (conditions l (read past) e.place e.seat e.act)
    (or-second (failing 0 1 (timely l (read past) e)) (failing (act_number e.act) 1 (conditions l (read past) e.place e.seat e.act)) none)

make-case : (l : Layout) (past : List Entry) (p s : ℕ) (a : Act) → (is_read a ≡ true → AreTrue (conditions l past p s a)) → MakeFits a
make-case l past p s (Make q b c) h =
    let two = and_parts (nat_le 1 c) (nat_le c PENDING_LIMIT) (h refl).1.0 in (leb-true 1 c two.0, leb-true c PENDING_LIMIT two.1)
make-case l past p s _ h = tt

pub make-fits : (l : Layout) (past : List Entry) (e : Entry) → breach_by l past e ≡ None → MakeFits e.act
make-fits l past e h = make-case l (read past) e.place e.seat e.act (holds l past e h)

first-fits : (x : MsgId) (f : PortState) → waits_first x (Some f) ≡ true → f.taken < length f.accepted
first-fits x f h = slice_get_within f.accepted f.taken x (id_is x (slice_get f.accepted f.taken) h)

take-case : (l : Layout) (past : List Entry) (p s : ℕ) (a : Act) (q : Ui) (f : PortState) → (is_read a ≡ true → AreTrue (conditions l past p s a)) → held_port_of a ≡ Some q → fate (on q past) ≡ Some f → TakeFits a f
take-case l past p s (Take r n x) q f h here is =
    let same : r ≡ q = cc in
    first-fits x f (ap (waits_first x) (sym (ap (λ z. fate (on z past)) same ∙ is)) ∙ (h refl).1.0)
take-case l past p s _ q f h here is = tt

pub take-fits : (l : Layout) (past : List Entry) (e : Entry) (q : Ui) (f : PortState) → breach_by l past e ≡ None → is_on (Some q) e ≡ true → fate (on q (read past)) ≡ Some f → TakeFits e.act f
take-fits l past e q f h here is = take-case l (read past) e.place e.seat e.act q f (holds l past e h) (on_is q (held_port_of e.act) here) is

-- the list with it keeps the promises
pub kept-more : (l : Layout) (es xs : List Entry) (e : Entry) → keeps_promises l (reverse es) ≡ true → breach_by l (reverse es) e ≡ None → xs ≡ es ++ e ∷ [] → keeps_promises l (reverse xs) ≡ true
kept-more l es xs e old none is =
    ap (λ ys. keeps_promises l (reverse ys)) is
    ∙ (ap (keeps_promises l) (reverse-append es (e ∷ []))
    ∙ and_from (is_none (breach_by l (reverse es) e)) (keeps_promises l (reverse es)) (ap is_none none) old)
