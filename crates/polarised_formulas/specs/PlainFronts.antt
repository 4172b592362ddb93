-- Words, names and connectives at the front of some bytes.
use Rattle.std.specs.Prelude.{◌≡◌, ℕ, ◌<◌, ◌≤◌, Bool, true, false, if◌then◌else◌, nat_eq, List, [], ◌∷◌, ◌++◌, length, take, slice_index}
use Rattle.fpc_terms.specs.Name.{begins_name, is_name_byte, is_keyword}
use Rattle.fpc_terms.specs.Term.{no_args}
use Rattle.polarised_formulas.specs.declared.logic.Logic.{Logic}
use Rattle.polarised_formulas.specs.declared.logic.Logic.TheVariants.{Lkf, Ljf}
use Rattle.polarised_formulas.specs.declared.logic.Polarity.TheVariants.{Positive, Negative}
use Rattle.polarised_formulas.specs.declared.node.Node.{Node}
use Rattle.polarised_formulas.specs.declared.node.Node.TheVariants.{True, False}
use Rattle.polarised_formulas.specs.Formula.{atom}
use Rattle.polarised_formulas.specs.PlainReading.{Operator, conjunction, disjunction, implication, link_text, every, Word, true_unit, false_unit, binder, word_text, Hole, in_atom, Reading, at_term, on, next, end_formula, end_name}
use Rattle.polarised_formulas.specs.PlainLimits.{nesting}
use Rattle.polarised_formulas.specs.PlainRuns.{Reaches}

-- the word is one of the logic's
abbrev pub is_word : Logic → Word → Bool
is_word Lkf w = true
is_word Ljf (true_unit p) = true
is_word Ljf (false_unit Positive) = true
is_word Ljf (false_unit Negative) = false
is_word Ljf (binder q) = true

-- the bytes begin with the text of the word, which is one of the logic's and has so many
abbrev pub IsWordAt : Logic → List ℕ → Word → ℕ → Type 0
IsWordAt logic bytes w n = (is_word logic w ≡ true) × (n ≡ length (word_text logic w)) × ((more : List ℕ) × (bytes ≡ word_text logic w ++ more))

-- the node is that of a unit
abbrev pub is_unit : Node → Bool
is_unit (True p) = true
is_unit (False p) = true
is_unit _ = false

-- the word of a unit
abbrev pub unit_word : Node → Word
unit_word (True p) = true_unit p
unit_word (False p) = false_unit p
unit_word _ = binder every

-- the bytes begin with the text of a unit of the logic, which has so many bytes, and the end of a line
abbrev pub IsUnitLine : Logic → List ℕ → Node → ℕ → Type 0
IsUnitLine logic bytes node n = (is_unit node ≡ true) × IsWordAt logic bytes (unit_word node) n × (n < length bytes) × (slice_index bytes n ≡ 10)

-- the operator is one of the logic's
abbrev pub is_operator : Logic → Operator → Bool
is_operator Lkf (conjunction p) = true
is_operator Lkf (disjunction p) = true
is_operator Lkf implication = false
is_operator Ljf (conjunction p) = true
is_operator Ljf (disjunction Positive) = true
is_operator Ljf (disjunction Negative) = false
is_operator Ljf implication = true

-- the bytes begin with the operator and its blanks, which is one of the logic's and has so many bytes with them
abbrev pub IsLinkAt : Logic → List ℕ → Operator → ℕ → Type 0
IsLinkAt logic bytes o n = (is_operator logic o ≡ true) × (n ≡ length (32 ∷ link_text logic o)) × ((more : List ℕ) × (bytes ≡ (32 ∷ link_text logic o) ++ more))

-- the first bytes, so many, are the letters of a name that the next byte ends, and are not too many
pub record IsNameAt (bytes : List ℕ) (n : ℕ) : Type 0 where
  pub name : begins_name (take n bytes) ≡ true
  pub few : n ≤ 255
  pub behind : is_name_byte (slice_index bytes n) ≡ false

-- the first bytes, so many, lead to a reading at which the next byte ends the name of a literal that they are, where they are one
pub record EndsName (number : List ℕ → ℕ) (logic : Logic) (hs : List Hole) (positive : Bool) (bytes : List ℕ) (n : ℕ) (q : Reading) : Type 0 where
  pub reading : Reading
  pub reached : Reaches number logic q (take n bytes) reading
  pub shallow : nesting reading ≡ 0
  pub ends : is_keyword (take n bytes) ≡ false → next number logic reading (slice_index bytes n) ≡ end_name number hs positive (take n bytes) (slice_index bytes n)

-- at the reading the byte comes behind the name of a literal
pub record IsBehindName (number : List ℕ → ℕ) (logic : Logic) (hs : List Hole) (positive : Bool) (name b : ℕ) (q : Reading) : Type 0 where
  pub shallow : nesting q ≡ 0
  pub ends : next number logic q b ≡ (if nat_eq b 40 then on (at_term (in_atom hs positive name [])) else end_formula hs (atom positive name no_args) b)
