-- Sequents with their levels, as they are stored.
use Rattle.std.specs.Prelude.{◌≡◌, List, ◌⊎◌, refl}
use Rattle.std.proofs.Common.{inl, inr}
use Rattle.std.specs.Coded.{Coded, code_by, coded_list, coded×, coded⊎, coded_ℕ}
use Rattle.polarised_formulas.specs.Formula.{Formula, formula_code}
use Rattle.lkf_rules.specs.Sequent.{Sequent, up, down, Levelled}

abbrev pub Parts : Type 0
Parts = (List Formula × List Formula) ⊎ (List Formula × Formula)

abbrev pub parts_of_sequent : Sequent → Parts
parts_of_sequent (up s g) = inl (s, g)
parts_of_sequent (down s f) = inr (s, f)

abbrev pub sequent_of_parts : Parts → Sequent
sequent_of_parts (inl p) = up p.0 p.1
sequent_of_parts (inr p) = down p.0 p.1

pub sequent_of_parts-parts_of_sequent : (c : Sequent) → sequent_of_parts (parts_of_sequent c) ≡ c
sequent_of_parts-parts_of_sequent (up s g) = refl
sequent_of_parts-parts_of_sequent (down s f) = refl

-- sequents with their levels are stored as their parts
abbrev pub levelled_code : Coded Levelled
levelled_code =
    coded× coded_ℕ (code_by Parts (coded⊎ (coded× (coded_list formula_code) (coded_list formula_code)) (coded× (coded_list formula_code) formula_code)) parts_of_sequent sequent_of_parts sequent_of_parts-parts_of_sequent)
