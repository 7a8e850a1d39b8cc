-- Two entries that hand one message out of a port are one entry.
-- q is a port, x a message's id, e and f are entries, past is a list of entries, the newest first.
use Rattle.std.proofs.Common.{ℕ, ◌≡◌, inl, inr, Bool, true, false, cond, List, [], ◌∷◌, ◌++◌, length, Some, slice_get, refl, sym, ◌∙◌, ap, subst, arith}
use Rattle.std.specs.List.{filter}
use Rattle.std.proofs.lemmas.List.{append-nil}
use Rattle.chorus_ui.specs.declared.ui.Ui.{Ui}
use Rattle.chorus_ui.specs.Name.{same_ui}
use Rattle.chorus_ui.proofs.Names.{same_ui-self}
use Rattle.chorus_entry.specs.declared.entry.Entry.{Entry}
use Rattle.chorus_entry.specs.declared.id.MsgId.{MsgId}
use Rattle.chorus_entry.specs.declared.act.Act.{Act}
use Rattle.chorus_entry.specs.Act.{held_port_of}
use Rattle.chorus_entry.specs.Same.{are_same}
use Rattle.chorus_world.specs.Views.{is_on, on}
use Rattle.chorus_world.specs.AcceptedLaws.{received, received_after}
use Rattle.chorus_world.specs.SentLaws.{StandsIn}
use Rattle.chorus_turn.specs.Lists.{StartsWith}
use Rattle.chorus_sessions.proofs.Once.{Once}
use Rattle.chorus_sessions.proofs.Lists.{In, in-seam, get-low, get-longer, get-seam}

pub in-so : (e : Entry) (past : List Entry) → StandsIn e past → In e past
in-so e past s = subst (λ zs. In e zs) (sym s.is) (in-seam e s.newer s.older)

pub stands-so : (e : Entry) (past : List Entry) → In e past → StandsIn e past
stands-so e [] a = absurd a
stands-so e (f ∷ fs) (inl is) = record { newer = []; older = fs; is = ap (λ z. z ∷ fs) is }
stands-so e (f ∷ fs) (inr a) = let s = stands-so e fs a in record { newer = f ∷ s.newer; older = s.older; is = ap (λ zs. f ∷ zs) s.is }

-- What was received, as entries come.

after-starts : (a : Act) (xs : List MsgId) → StartsWith (received_after a xs) xs
after-starts (Act.Make port actor capacity) xs = ([], sym (append-nil xs))
after-starts (Act.MakeFull actor) xs = ([], sym (append-nil xs))
after-starts (Act.NoActor actor) xs = ([], sym (append-nil xs))
after-starts (Act.NoSite site) xs = ([], sym (append-nil xs))
after-starts (Act.Post message dest) xs = ([], sym (append-nil xs))
after-starts (Act.Accept id port pos) xs = ([], sym (append-nil xs))
after-starts (Act.Full id port len) xs = ([], sym (append-nil xs))
after-starts (Act.Already id port) xs = ([], sym (append-nil xs))
after-starts (Act.ClientsFull id port) xs = ([], sym (append-nil xs))
after-starts (Act.Stale id port tried to hop) xs = ([], sym (append-nil xs))
after-starts (Act.Early id port hop) xs = ([], sym (append-nil xs))
after-starts (Act.NoPort id port) xs = ([], sym (append-nil xs))
after-starts (Act.Elsewhere id port to hop) xs = ([], sym (append-nil xs))
after-starts (Act.NoMember id group) xs = ([], sym (append-nil xs))
after-starts (Act.Choose id group members) xs = ([], sym (append-nil xs))
after-starts (Act.Try id port to hop) xs = ([], sym (append-nil xs))
after-starts (Act.Told id answer) xs = ([], sym (append-nil xs))
after-starts (Act.Heard id answer) xs = ([], sym (append-nil xs))
after-starts (Act.Take port pos id) xs = (id ∷ [], refl)
after-starts (Act.Done number) xs = ([], sym (append-nil xs))
after-starts (Act.Late number) xs = ([], sym (append-nil xs))
after-starts (Act.Empty port) xs = ([], sym (append-nil xs))
after-starts (Act.NotHere port) xs = ([], sym (append-nil xs))
after-starts (Act.Rehome port actor) xs = ([], sym (append-nil xs))
after-starts (Act.Depart port to actor hop) xs = ([], sym (append-nil xs))
after-starts (Act.Arrive port hop) xs = ([], sym (append-nil xs))
after-starts (Act.GroupMake group) xs = ([], sym (append-nil xs))
after-starts (Act.GroupsFull site) xs = ([], sym (append-nil xs))
after-starts (Act.Join group port) xs = ([], sym (append-nil xs))
after-starts (Act.Leave group port) xs = ([], sym (append-nil xs))
after-starts (Act.NoGroup group) xs = ([], sym (append-nil xs))
after-starts (Act.There group port) xs = ([], sym (append-nil xs))
after-starts (Act.NotThere group port) xs = ([], sym (append-nil xs))
after-starts (Act.MembersFull group) xs = ([], sym (append-nil xs))
after-starts (Act.Outstanding number) xs = ([], sym (append-nil xs))
after-starts Act.NoCall xs = ([], sym (append-nil xs))
after-starts Act.NoRequest xs = ([], sym (append-nil xs))
after-starts (Act.Cancel number) xs = ([], sym (append-nil xs))
after-starts (Act.Delete port discarded) xs = ([], sym (append-nil xs))
after-starts (Act.Gone id port) xs = ([], sym (append-nil xs))

pub keeps : (p : Entry → Bool) (e : Entry) (es : List Entry) → p e ≡ true → filter p (e ∷ es) ≡ e ∷ filter p es
keeps p e es h = ap (λ b. cond b (e ∷ filter p es) (filter p es)) h

pub skips : (p : Entry → Bool) (e : Entry) (es : List Entry) → p e ≡ false → filter p (e ∷ es) ≡ filter p es
skips p e es h = ap (λ b. cond b (e ∷ filter p es) (filter p es)) h

grows : (q : Ui) (e : Entry) (past : List Entry) → StartsWith (received (on q (e ∷ past))) (received (on q past))
grows q e past = go (is_on (Some q) e) refl
  where
    go : (b : Bool) → is_on (Some q) e ≡ b → StartsWith (received (on q (e ∷ past))) (received (on q past))
    go true h = subst (λ es. StartsWith (received es) (received (on q past))) (sym (keeps (is_on (Some q)) e past h)) (after-starts e.act (received (on q past)))
    go false h = subst (λ es. StartsWith (received es) (received (on q past))) (sym (skips (is_on (Some q)) e past h)) ([], sym (append-nil (received (on q past))))

ends-with : (q : Ui) (x : MsgId) (n : ℕ) (e : Entry) (past : List Entry) → e.act ≡ Act.Take q n x → received (on q (e ∷ past)) ≡ received (on q past) ++ x ∷ []
ends-with q x n e past act =
    let on_line : is_on (Some q) e ≡ true = ap (λ a. are_same same_ui (Some q) (held_port_of a)) act ∙ same_ui-self q in
    ap received (keeps (is_on (Some q)) e past on_line) ∙ ap (λ a. received_after a (received (on q past))) act

-- Where it stands.

pub found : (q : Ui) (x : MsgId) (n : ℕ) (f : Entry) (past : List Entry) → In f past → f.act ≡ Act.Take q n x → (k : ℕ) × (slice_get (received (on q past)) k ≡ Some x)
found q x n f [] a act = absurd a
found q x n f (e ∷ past) (inl is) act =
    (length (received (on q past)), ap (λ xs. slice_get xs (length (received (on q past)))) (ends-with q x n e past (ap (λ (z : Entry). z.act) is ∙ act)) ∙ get-seam (received (on q past)) x)
found q x n f (e ∷ past) (inr a) act =
    let more = found q x n f past a act in
    let starts = grows q e past in
    (more.0, ap (λ xs. slice_get xs more.0) starts.1 ∙ get-longer (received (on q past)) starts.0 more.0 x more.1)

-- the newest entry hands the message out, and an older one did
twice : {P : Type 0} (q : Ui) (x : MsgId) (n m : ℕ) (e f : Entry) (past : List Entry) → Once (received (on q (e ∷ past))) → e.act ≡ Act.Take q n x → In f past → f.act ≡ Act.Take q m x → P
twice q x n m e f past once new a old =
    let before = found q x m f past a old in
    let low = get-low (received (on q past)) before.0 x before.1 in
    let all = ends-with q x n e past new in
    let first : slice_get (received (on q (e ∷ past))) before.0 ≡ Some x = ap (λ xs. slice_get xs before.0) all ∙ get-longer (received (on q past)) (x ∷ []) before.0 x before.1 in
    let last : slice_get (received (on q (e ∷ past))) (length (received (on q past))) ≡ Some x = ap (λ xs. slice_get xs (length (received (on q past)))) all ∙ get-seam (received (on q past)) x in
    let same = once before.0 (length (received (on q past))) x first last in
    absurd (omega (arith, low, same))

pub one-entry : (q : Ui) (x : MsgId) (n m : ℕ) (e f : Entry) (past : List Entry) → ((newer older : List Entry) → past ≡ newer ++ older → Once (received (on q older))) → In e past → In f past → e.act ≡ Act.Take q n x → f.act ≡ Act.Take q m x → e ≡ f
one-entry q x n m e f [] once a b new old = absurd a
one-entry q x n m e f (g ∷ past) once (inl a) (inl b) new old = sym a ∙ b
one-entry q x n m e f (g ∷ past) once (inl a) (inr b) new old = twice q x n m g f past (once [] (g ∷ past) refl) (ap (λ (z : Entry). z.act) a ∙ new) b old
one-entry q x n m e f (g ∷ past) once (inr a) (inl b) new old = twice q x m n g e past (once [] (g ∷ past) refl) (ap (λ (z : Entry). z.act) b ∙ old) a new
one-entry q x n m e f (g ∷ past) once (inr a) (inr b) new old =
    one-entry q x n m e f past (λ newer older is. once (g ∷ newer) older (ap (λ zs. g ∷ zs) is)) a b new old
