-- What the loops of `read_all` and `write_all` keep, and what follows where they end.
use Rattle.std.proofs.Common.{◌≡◌, ℕ, ◌+◌, ◌≤◌, List, ◌++◌, length, take, drop, Option, sym, subst, arith, length-append, take-append-drop}
use Rattle.std.specs.Io.KnownBytes.{Appends, Consumes, Keeps}
use Rattle.std.proofs.Math.Seq.{take-add}
use Rattle.std.proofs.KnownBytes.{Appends-kept, Appends-trans, Consumes-trans}
use Rattle.chorus_io.specs.Bytes.{AppendsPrefix, IsTooLong, IsReadWithin}

-- these bytes were read so far
pub record Read (left_old left_new : Option (List ℕ)) (bytes : List ℕ) (limit faults_old faults_new : ℕ) (reliable_old reliable_new : Type 0) : Type 0 where
  pub consumed : Consumes left_old left_new bytes
  pub within : length bytes ≤ limit
  pub never_falls : faults_old ≤ faults_new
  pub reliable : reliable_old → reliable_new × (faults_new ≡ faults_old)

-- with those of one more read, one byte too many
pub IsTooLong-with : (old mid new : Option (List ℕ)) (bytes front : List ℕ) (limit : ℕ)
    → Consumes old mid bytes → Consumes mid new front → length bytes + length front ≡ limit + 1 → (all : List ℕ) × IsTooLong limit all old new
IsTooLong-with old mid new bytes front limit before now count =
    (bytes ++ front, (Consumes-trans old mid new bytes front before now, omega (arith, length-append bytes front)))

-- or within the limit
pub IsReadWithin-with : (old mid new : Option (List ℕ)) (bytes front : List ℕ) (limit : ℕ)
    → Consumes old mid bytes → Consumes mid new front → length bytes + length front ≤ limit → (all : List ℕ) × IsReadWithin limit all old new
IsReadWithin-with old mid new bytes front limit before now within =
    (bytes ++ front, (Consumes-trans old mid new bytes front before now, omega (arith, length-append bytes front)))

-- the bytes before this place were written so far
pub record Wrote (held_old held_new : Option (List ℕ)) (bytes : List ℕ) (at faults_old faults_new : ℕ) : Type 0 where
  pub in_range : at ≤ length bytes
  pub grown : Appends held_old held_new (take at bytes)
  pub never_falls : faults_old ≤ faults_new

-- some more were written
pub Appends-at : (old mid new : Option (List ℕ)) (bytes : List ℕ) (at n : ℕ)
    → Appends old mid (take at bytes) → Appends mid new (take n (drop at bytes)) → Appends old new (take (at + n) bytes)
Appends-at old mid new bytes at n before now =
    subst (Appends old new) (sym (take-add at n bytes)) (Appends-trans old mid new (take at bytes) (take n (drop at bytes)) before now)

-- writing ended at this place
pub AppendsPrefix-at : (old mid new : Option (List ℕ)) (bytes : List ℕ) (at : ℕ) → Appends old mid (take at bytes) → Keeps mid new → AppendsPrefix old new bytes
AppendsPrefix-at old mid new bytes at before kept = record {
  sent = take at bytes;
  unsent = drop at bytes;
  whole = sym (take-append-drop at bytes);
  grown = Appends-kept old mid new (take at bytes) before kept;
}
