-- What `lossy` read, wrote and left, by its status. The bytes are those that were read of the source.
use Rattle.std.specs.Prelude.{◌≡◌, ℕ, ◌+◌, ◌*◌, List, [], ◌∷◌, ◌++◌, codes, decimal, Option}
use Rattle.std.specs.Io.KnownBytes.{Appends}
use Rattle.chorus_io.specs.Bytes.{AppendsPrefix, IsReadWhole, IsReadWithin, IsTooLong}
use Rattle.chorus_show.specs.Phrases.{phrase}
use Rattle.chorus_show.specs.declared.status.Status.{Status}
use Rattle.chorus_show.specs.declared.status.Status.TheVariants.{Done, Usage, Scenario, ReadFault, WriteFault, Memory, Worn}
use Rattle.chorus_show.specs.declared.status.TheConstants.Status.{TOO_LONG}
use Rattle.chorus_transport.specs.Sending.{next_number}
use Rattle.chorus_transport.specs.Receiving.{ack_of}
use Rattle.chorus_lossy.specs.declared.printing.TheConstants.{INPUT_LIMIT}
use Rattle.chorus_lossy.specs.Line.{Ends, new_ends, chunk_count, window_count}
use Rattle.chorus_lossy.specs.Rounds.{Moment, after_rounds}
use Rattle.chorus_lossy.specs.Carrying.{IsWithin}

-- After so many rounds all is delivered, whatever the draws: each fourth round loses nothing, and brings a window more.
abbrev pub whole_run : ℕ → List ℕ → Moment
whole_run first bytes = after_rounds first bytes (4 * window_count bytes)

-- the line `wire EMITTED LOST`
abbrev pub wire_line : ℕ → ℕ → List ℕ
wire_line emitted lost = phrase (codes "wire") (decimal emitted ∷ decimal lost ∷ []) ++ 10 ∷ []

-- the bytes, the end of their line, and that line
abbrev pub text_with : List ℕ → ℕ → ℕ → List ℕ
text_with bytes emitted lost = bytes ++ 10 ∷ wire_line emitted lost

abbrev pub lossy_text : ℕ → List ℕ → List ℕ
lossy_text first bytes =
    text_with bytes (whole_run first bytes).emitted (whole_run first bytes).lost

-- how a call ends, and what it read: the byte above the limit exactly at Scenario
abbrev pub ReadsBy : Status → List ℕ → Option (List ℕ) → Option (List ℕ) → Type 0
ReadsBy Done bytes old new = IsReadWhole INPUT_LIMIT bytes old new
ReadsBy WriteFault bytes old new = IsReadWhole INPUT_LIMIT bytes old new
ReadsBy (Scenario line reason) bytes old new = (Scenario line reason ≡ TOO_LONG) × IsTooLong INPUT_LIMIT bytes old new
ReadsBy ReadFault bytes old new = IsReadWithin INPUT_LIMIT bytes old new
ReadsBy Memory bytes old new = IsReadWithin INPUT_LIMIT bytes old new
ReadsBy Usage bytes old new = ⊥
ReadsBy (Worn clock) bytes old new = ⊥

-- the sink took the text at Done, a prefix of it at WriteFault, and nothing with any other status
abbrev pub Prints : ℕ → Status → List ℕ → Option (List ℕ) → Option (List ℕ) → Type 0
Prints first Done bytes old new = Appends old new (lossy_text first bytes)
Prints first WriteFault bytes old new = AppendsPrefix old new (lossy_text first bytes)
Prints first _ bytes old new = new ≡ old

-- the ends are those of the whole run, and all chunks were put and acknowledged
pub record HasCarried (first : ℕ) (bytes : List ℕ) (e : Ends) : Type 0 where
  pub ends : e ≡ (whole_run first bytes).ends
  pub put : next_number e.sender ≡ chunk_count bytes
  pub acknowledged : ack_of e.receiver ≡ chunk_count bytes

-- how the two ends stand then: without memory after a first part of the run, and where nothing was carried as they were
-- made
abbrev pub Leaves : ℕ → Status → List ℕ → Ends → Type 0
Leaves first Done bytes e = HasCarried first bytes e
Leaves first WriteFault bytes e = HasCarried first bytes e
Leaves first Memory bytes e = IsWithin first bytes e
Leaves first _ bytes e = e ≡ new_ends

-- what is seen of it without the ends
abbrev pub CarriesInput : ℕ → Status → Option (List ℕ) → Option (List ℕ)
    → Option (List ℕ) → Option (List ℕ) → Type 0
CarriesInput first status left rest old new =
    (bytes : List ℕ) × ReadsBy status bytes left rest × Prints first status bytes old new
