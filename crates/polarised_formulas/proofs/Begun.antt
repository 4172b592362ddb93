-- The bytes of what has been read, and when a reading can still become whole.
use Rattle.std.proofs.Common.{◌≡◌, ℕ, ◌<◌, true, List, [], ◌∷◌, ◌++◌, decimal, refl}
use Rattle.fpc_terms.specs.Term.{Term, Args, arg}
use Rattle.fpc_terms.specs.Text.{args_before, more_before, plain_leaves}
use Rattle.polarised_formulas.specs.declared.logic.Logic.{Logic}
use Rattle.polarised_formulas.specs.declared.logic.Logic.TheVariants.{Lkf, Ljf}
use Rattle.polarised_formulas.specs.Formula.{Formula}
use Rattle.polarised_formulas.specs.Text.{mark_text, operator_before}
use Rattle.polarised_formulas.specs.PlainReading.{Operator, conjunction, disjunction, implication, binary, operator_text, quantifier_text, operators, link_text, words, word_text, begins_some, Hole, first_of, second_of, under, depth_of, Around, alone, in_term, in_atom, depth_around, Reading, at_formula, in_word, at_name, in_name, behind_formula, in_operator, at_term, in_function, at_eigen, in_eigen, at_index, in_index, behind_term, Next, on, whole_term, whole_formula, wrong, args_onto, Use, of_term, of_formula}
use Rattle.polarised_formulas.specs.PlainForm.{begins_name, IsPlainName, IsPlainTerm, HasOperator, IsPlainFormula, plain_term, plain_formula}

-- the terms so far, the last one first, before other bytes
abbrev pub done_before : (ℕ → List ℕ) → List Term → List ℕ → List ℕ
done_before text [] rest = rest
done_before text (t ∷ ts) rest = done_before text ts (plain_term text t (44 ∷ rest))

-- the bytes in front of a formula
abbrev pub holes_before : (ℕ → List ℕ) → Logic → List Hole → List ℕ → List ℕ
holes_before text logic [] rest = rest
holes_before text logic (first_of ∷ hs) rest = holes_before text logic hs (40 ∷ rest)
holes_before text logic (second_of o a ∷ hs) rest = holes_before text logic hs (40 ∷ plain_formula text logic (depth_of hs) a (operator_before (operator_text logic o) rest))
holes_before text logic (under q ∷ hs) rest = holes_before text logic hs (quantifier_text q ++ rest)

-- the bytes in front of a term
abbrev pub around_before : (ℕ → List ℕ) → Logic → Around → List ℕ → List ℕ
around_before text logic alone rest = rest
around_before text logic (in_term f ts up) rest = around_before text logic up (text f ++ 40 ∷ done_before text ts rest)
around_before text logic (in_atom hs positive f ts) rest = holes_before text logic hs (mark_text logic positive ++ (text f ++ 40 ∷ done_before text ts rest))

-- the bytes that have been read
abbrev pub begun_before : (ℕ → List ℕ) → Logic → Reading → List ℕ → List ℕ
begun_before text logic (at_formula hs) rest = holes_before text logic hs rest
begun_before text logic (in_word hs w) rest = holes_before text logic hs (w ++ rest)
begun_before text logic (at_name hs positive) rest = holes_before text logic hs (mark_text logic positive ++ rest)
begun_before text logic (in_name hs positive w) rest = holes_before text logic hs (mark_text logic positive ++ (w ++ rest))
begun_before text logic (behind_formula hs f) rest = holes_before text logic hs (plain_formula text logic (depth_of hs) f rest)
begun_before text logic (in_operator hs a w) rest = holes_before text logic hs (40 ∷ plain_formula text logic (depth_of hs) a (32 ∷ (w ++ rest)))
begun_before text logic (at_term up) rest = around_before text logic up rest
begun_before text logic (in_function up w) rest = around_before text logic up (w ++ rest)
begun_before text logic (at_eigen up) rest = around_before text logic up (36 ∷ rest)
begun_before text logic (in_eigen up k) rest = around_before text logic up (36 ∷ (decimal k ++ rest))
begun_before text logic (at_index up) rest = around_before text logic up (35 ∷ rest)
begun_before text logic (in_index up k) rest = around_before text logic up (35 ∷ (decimal k ++ rest))
begun_before text logic (behind_term up t) rest = around_before text logic up (plain_term text t rest)

-- what was read has those bytes
abbrev pub Spells : (ℕ → List ℕ) → Logic → Next → (List ℕ → List ℕ) → Type 0
Spells text logic (on q) f = (rest : List ℕ) → begun_before text logic q rest ≡ f rest
Spells text logic (whole_term t) f = (rest : List ℕ) → plain_term text t (10 ∷ rest) ≡ f rest
Spells text logic (whole_formula g) f = (rest : List ℕ) → plain_formula text logic 0 g (10 ∷ rest) ≡ f rest
Spells text logic wrong f = Unit {0}

-- the arguments in parentheses, as they were read
pub args_before-args_onto : (text : ℕ → List ℕ) (ts : List Term) (t : Term) (us : Args) (rest : List ℕ) → args_before (plain_leaves text) (args_onto ts (arg t us)) rest ≡ 40 ∷ done_before text ts (plain_term text t (more_before (plain_leaves text) us rest))
args_before-args_onto text [] t us rest = refl
args_before-args_onto text (s ∷ ts) t us rest = args_before-args_onto text ts s (arg t us) rest

pub plain_formula-binary : (text : ℕ → List ℕ) (logic : Logic) (d : ℕ) (o : Operator) (a b : Formula) (rest : List ℕ)
    → plain_formula text logic d (binary o a b) rest ≡ 40 ∷ plain_formula text logic d a (operator_before (operator_text logic o) (plain_formula text logic d b (41 ∷ rest)))
plain_formula-binary text logic d (conjunction p) a b rest = refl
plain_formula-binary text logic d (disjunction p) a b rest = refl
plain_formula-binary text logic d implication a b rest = refl

-- a word begun may become whole
abbrev pub IsLiveWord : Logic → List ℕ → Type 0
IsLiveWord Lkf w = begins_name w ≡ true
IsLiveWord Ljf w = begins_some (word_text Ljf) w (words Ljf) ≡ true

abbrev pub ArePlainDone : (ℕ → List ℕ) → (List ℕ → ℕ) → ℕ → List Term → Type 0
ArePlainDone text number d [] = Unit {0}
ArePlainDone text number d (t ∷ ts) = IsPlainTerm text number d t × ArePlainDone text number d ts

abbrev pub AreLiveHoles : (ℕ → List ℕ) → (List ℕ → ℕ) → Logic → Use → List Hole → Type 0
AreLiveHoles text number logic wanted [] = wanted ≡ of_formula
AreLiveHoles text number logic wanted (first_of ∷ hs) = AreLiveHoles text number logic wanted hs
AreLiveHoles text number logic wanted (second_of o a ∷ hs) = HasOperator logic o × IsPlainFormula text number logic (depth_of hs) a × AreLiveHoles text number logic wanted hs
AreLiveHoles text number logic wanted (under q ∷ hs) = AreLiveHoles text number logic wanted hs

abbrev pub IsLiveAround : (ℕ → List ℕ) → (List ℕ → ℕ) → Logic → Use → Around → Type 0
IsLiveAround text number logic wanted alone = wanted ≡ of_term
IsLiveAround text number logic wanted (in_term f ts up) = IsPlainName text number f × ArePlainDone text number (depth_around up) ts × IsLiveAround text number logic wanted up
IsLiveAround text number logic wanted (in_atom hs positive f ts) = IsPlainName text number f × ArePlainDone text number (depth_of hs) ts × AreLiveHoles text number logic wanted hs

-- what was read is plain, and what was begun may become whole
abbrev pub IsLive : (ℕ → List ℕ) → (List ℕ → ℕ) → Logic → Use → Reading → Type 0
IsLive text number logic wanted (at_formula hs) = AreLiveHoles text number logic wanted hs
IsLive text number logic wanted (in_word hs w) = IsLiveWord logic w × AreLiveHoles text number logic wanted hs
IsLive text number logic wanted (at_name hs positive) = AreLiveHoles text number logic wanted hs
IsLive text number logic wanted (in_name hs positive w) = (begins_name w ≡ true) × AreLiveHoles text number logic wanted hs
IsLive text number logic wanted (behind_formula hs f) = IsPlainFormula text number logic (depth_of hs) f × AreLiveHoles text number logic wanted hs
IsLive text number logic wanted (in_operator hs a w) =
    IsPlainFormula text number logic (depth_of hs) a × (begins_some (link_text logic) w (operators logic) ≡ true) × AreLiveHoles text number logic wanted hs
IsLive text number logic wanted (at_term up) = IsLiveAround text number logic wanted up
IsLive text number logic wanted (in_function up w) = (begins_name w ≡ true) × IsLiveAround text number logic wanted up
IsLive text number logic wanted (at_eigen up) = IsLiveAround text number logic wanted up
IsLive text number logic wanted (in_eigen up k) = (k < 1000000000) × IsLiveAround text number logic wanted up
IsLive text number logic wanted (at_index up) = (0 < depth_around up) × IsLiveAround text number logic wanted up
IsLive text number logic wanted (in_index up k) = (k < depth_around up) × (k < 1000000000) × IsLiveAround text number logic wanted up
IsLive text number logic wanted (behind_term up t) = IsPlainTerm text number (depth_around up) t × IsLiveAround text number logic wanted up

abbrev pub IsLiveNext : (ℕ → List ℕ) → (List ℕ → ℕ) → Logic → Use → Next → Type 0
IsLiveNext text number logic wanted (on q) = IsLive text number logic wanted q
IsLiveNext text number logic wanted (whole_term t) = (wanted ≡ of_term) × IsPlainTerm text number 0 t
IsLiveNext text number logic wanted (whole_formula f) = (wanted ≡ of_formula) × IsPlainFormula text number logic 0 f
IsLiveNext text number logic wanted wrong = Unit {0}
