-- Each arrow comes from an entry that stands before, of whatever list.
use Rattle.std.proofs.Common.{◌≡◌, ◌≢◌, ◌==◌, Bool, true, false, List, [], ◌∷◌, ◌++◌, Option, Some, None, refl, sym, ◌∙◌, ap}
use Rattle.std.proofs.lemmas.Bool.{eq-eqb, false≢true}
use Rattle.chorus_entry.specs.declared.entry.Entry.{Entry}
use Rattle.chorus_world.proofs.Ports.LineLemmas.{none_some}
use Rattle.law_picture.specs.declared.row.Row.{Row}
use Rattle.law_picture.specs.Causes.{caused_by, from_elsewhere, goes_on, latest, row_of}
use Rattle.law_picture.specs.Laws.{ArrowsLeadForward}
use Rattle.law_picture.proofs.Came.{latest_here, latest_skips}

pub record Stood (past : List Entry) (r : Row) : Type 0 where
  pub entry : Entry
  pub newer : List Entry
  pub older : List Entry
  pub stands : past ≡ newer ++ entry ∷ older
  pub row : r ≡ row_of older entry

some_row : (a b : Row) → Some a ≡ Some b → a ≡ b
some_row a b h = cc

stood : (test : Entry → Bool) (past : List Entry) (r : Row) → latest test past ≡ Some r → Stood past r
stood test [] r h = absurd (cc)
stood test (e ∷ past) r h = go (test e) refl (stood test past r)
  where
    go : (b : Bool) → test e ≡ b → (latest test past ≡ Some r → Stood past r) → Stood (e ∷ past) r
    go true t further = record {
      entry = e;
      newer = [];
      older = past;
      stands = refl;
      row = some_row r (row_of past e) (sym h ∙ latest_here test e past t);
    }
    go false n further =
        let old = further (sym (latest_skips test e past n) ∙ h) in
        record { entry = old.entry; newer = e ∷ old.newer; older = old.older; stands = ap (λ es. e ∷ es) old.stands; row = old.row }

-- the cause is the latest entry of its kind, and stands elsewhere
pub caused-latest : (past : List Entry) (e : Entry) (r : Row) → caused_by past e ≡ Some r → (latest (goes_on e.act) past ≡ Some r) × (r.place ≢ e.place)
caused-latest past e r h = go (latest (goes_on e.act) past) refl
  where
    here : (row : Row) → (row.place == e.place) ≡ true → from_elsewhere e (Some row) ≡ None
    here row t = rw t refl

    there : (row : Row) → (row.place == e.place) ≡ false → from_elsewhere e (Some row) ≡ Some row
    there row n = rw n refl

    by : (row : Row) (b : Bool) → (row.place == e.place) ≡ b → from_elsewhere e (Some row) ≡ Some r → (Some row ≡ Some r) × (r.place ≢ e.place)
    by row true t k = none_some r (sym (here row t) ∙ k)
    by row false n k =
        let same = some_row row r (sym (there row n) ∙ k) in
        (ap Some same, λ place. false≢true (sym n ∙ eq-eqb row.place e.place (ap (λ (z : Row). z.place) same ∙ place)))

    go : (o : Option Row) → latest (goes_on e.act) past ≡ o → (latest (goes_on e.act) past ≡ Some r) × (r.place ≢ e.place)
    go None n = none_some r (sym (ap (from_elsewhere e) n) ∙ h)
    go (Some row) s =
        let two = by row (row.place == e.place) refl (sym (ap (from_elsewhere e) s) ∙ h) in
        (s ∙ two.0, two.1)

pub arrows_lead_forward : ArrowsLeadForward
arrows_lead_forward past e r h =
    let last = caused-latest past e r h in
    let old = stood (goes_on e.act) past r last.0 in
    record {
      entry = old.entry;
      newer = old.newer;
      older = old.older;
      stands = old.stands;
      row = old.row;
      elsewhere = λ same. last.1 (ap (λ (z : Row). z.place) old.row ∙ same);
    }
