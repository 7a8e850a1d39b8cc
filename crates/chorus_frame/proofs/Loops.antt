-- Reading messages and clients one after the other, as a loop does.
use Rattle.std.proofs.Common.{◌≡◌, ℕ, suc, ◌-◌, ◌+◌, ◌≤◌, ◌<◌, List, [], ◌∷◌, ◌++◌, Result, Ok, refl, sym, subst, ◌∙◌, arith}
use Rattle.chorus_entry.specs.declared.message.Message.{Message}
use Rattle.chorus_frame.specs.declared.fault.DecodeFault.{DecodeFault}
use Rattle.chorus_frame.specs.Fault.{Fault}
use Rattle.chorus_frame.specs.Numbers.{◌>>=◌}
use Rattle.chorus_frame.specs.Calls.{Fails}
use Rattle.chorus_frame.specs.Reading.{message_at, messages_at, client_at, entries_at}
use Rattle.chorus_frame.proofs.Fails.{Fails-then}

-- one step, where some are left
messages-step : (before : List Message) (count i : ℕ) (bytes : List ℕ) → i < count → messages_at before (count - i) bytes ≡ (message_at bytes >>= λ m. messages_at (before ++ m.0 ∷ []) (count - (i + 1)) m.1)
unfolding messages_at
messages-step before count i bytes lt =
    let k : count - i ≡ suc (count - (i + 1)) = omega arith in
    rw k refl

pub messages-on : (before : List Message) (count i : ℕ) (bytes : List ℕ) (message : Message) (after : List ℕ) (total : Result (List Message × List ℕ) Fault) → i < count → message_at bytes ≡ Ok (message, after) → messages_at before (count - i) bytes ≡ total → messages_at (before ++ message ∷ []) (count - (i + 1)) after ≡ total
messages-on before count i bytes message after total lt read so_far =
    let one : messages_at before (count - i) bytes ≡ messages_at (before ++ message ∷ []) (count - (i + 1)) after = messages-step before count i bytes lt ∙ rw read refl in
    sym one ∙ so_far

pub messages-fail : (fault : DecodeFault) (before : List Message) (count i : ℕ) (bytes : List ℕ) (total : Result (List Message × List ℕ) Fault) → i < count → Fails fault (message_at bytes) → messages_at before (count - i) bytes ≡ total → Fails fault total
messages-fail fault before count i bytes total lt failed so_far =
    subst (Fails fault) (sym (messages-step before count i bytes lt) ∙ so_far) (Fails-then fault (message_at bytes) (λ m. messages_at (before ++ m.0 ∷ []) (count - (i + 1)) m.1) failed)

pub messages-done : (before : List Message) (count i : ℕ) (bytes : List ℕ) (total : Result (List Message × List ℕ) Fault) → count ≤ i → messages_at before (count - i) bytes ≡ total → total ≡ Ok (before, bytes)
unfolding messages_at
messages-done before count i bytes total le so_far =
    let k : count - i ≡ 0 = omega arith in
    let one : messages_at before (count - i) bytes ≡ Ok (before, bytes) = rw k refl in
    sym so_far ∙ one

-- the same of clients
entries-step : (before : List (ℕ × ℕ)) (count i : ℕ) (bytes : List ℕ) → i < count → entries_at before (count - i) bytes ≡ (client_at before bytes >>= λ e. entries_at (before ++ e.0 ∷ []) (count - (i + 1)) e.1)
unfolding entries_at
entries-step before count i bytes lt =
    let k : count - i ≡ suc (count - (i + 1)) = omega arith in
    rw k refl

pub entries-on : (before : List (ℕ × ℕ)) (count i : ℕ) (bytes : List ℕ) (entry : ℕ × ℕ) (after : List ℕ) (total : Result (List (ℕ × ℕ) × List ℕ) Fault) → i < count → client_at before bytes ≡ Ok (entry, after) → entries_at before (count - i) bytes ≡ total → entries_at (before ++ entry ∷ []) (count - (i + 1)) after ≡ total
entries-on before count i bytes entry after total lt read so_far =
    let one : entries_at before (count - i) bytes ≡ entries_at (before ++ entry ∷ []) (count - (i + 1)) after = entries-step before count i bytes lt ∙ rw read refl in
    sym one ∙ so_far

pub entries-fail : (fault : DecodeFault) (before : List (ℕ × ℕ)) (count i : ℕ) (bytes : List ℕ) (total : Result (List (ℕ × ℕ) × List ℕ) Fault) → i < count → Fails fault (client_at before bytes) → entries_at before (count - i) bytes ≡ total → Fails fault total
entries-fail fault before count i bytes total lt failed so_far =
    subst (Fails fault) (sym (entries-step before count i bytes lt) ∙ so_far) (Fails-then fault (client_at before bytes) (λ e. entries_at (before ++ e.0 ∷ []) (count - (i + 1)) e.1) failed)

pub entries-done : (before : List (ℕ × ℕ)) (count i : ℕ) (bytes : List ℕ) (total : Result (List (ℕ × ℕ) × List ℕ) Fault) → count ≤ i → entries_at before (count - i) bytes ≡ total → total ≡ Ok (before, bytes)
unfolding entries_at
entries-done before count i bytes total le so_far =
    let k : count - i ≡ 0 = omega arith in
    let one : entries_at before (count - i) bytes ≡ Ok (before, bytes) = rw k refl in
    sym so_far ∙ one
