-- The reading goes on exactly where the bytes begin a line, and a line is read as what it holds.
use Rattle.std.proofs.Common.{◌≡◌, ℕ, List, [], ◌∷◌, ◌++◌, refl, sym, ap, ◌∙◌, subst, append-nil}
use Rattle.fpc_terms.specs.Term.{Term}
use Rattle.polarised_formulas.specs.declared.logic.Logic.{Logic}
use Rattle.polarised_formulas.specs.declared.logic.Logic.TheVariants.{Lkf}
use Rattle.polarised_formulas.specs.Formula.{Formula}
use Rattle.polarised_formulas.specs.PlainReading.{Next, on, whole_term, whole_formula, wrong, alone, next, go, run, Use, of_term, of_formula, start, IsGoing}
use Rattle.polarised_formulas.specs.PlainForm.{GivesBack, IsPlainTerm, IsPlainFormula, IsLine, BeginsLine, plain_term, plain_formula, GoingBegins, TermIsWhole, FormulaIsWhole, TermIsOne, FormulaIsOne}
use Rattle.polarised_formulas.proofs.Begun.{Spells, IsLiveNext}
use Rattle.polarised_formulas.proofs.Kept.{Spells-same, Spells-next}
use Rattle.polarised_formulas.proofs.Live.{IsLiveNext-next}
use Rattle.polarised_formulas.proofs.Completion.{complete-begun}
use Rattle.polarised_formulas.proofs.Forward.{newline, run-append, run-term}
use Rattle.polarised_formulas.proofs.FormulaForward.{run-formula}

-- the line of a plain term is read as the term
pub term_read : (text : ℕ → List ℕ) (number : List ℕ → ℕ) (logic : Logic) (t : Term) → IsPlainTerm text number 0 t → run number logic (start of_term) (plain_term text t (10 ∷ [])) ≡ whole_term t
term_read text number logic t p = run-term number logic text t alone p newline []

pub formula_read : (text : ℕ → List ℕ) (number : List ℕ → ℕ) (logic : Logic) (f : Formula) → IsPlainFormula text number logic 0 f → run number logic (start of_formula) (plain_formula text logic 0 f (10 ∷ [])) ≡ whole_formula f
formula_read text number logic f p = run-formula number text logic f [] p newline []

same_whole_term : (t u : Term) → whole_term t ≡ whole_term u → t ≡ u
same_whole_term t u e = cc

same_whole_formula : (f g : Formula) → whole_formula f ≡ whole_formula g → f ≡ g
same_whole_formula f g e = cc

pub term_is_one : TermIsOne
term_is_one text number t u p q e = same_whole_term t u (sym (term_read text number Lkf t p) ∙ ap (run number Lkf (start of_term)) e ∙ term_read text number Lkf u q)

pub formula_is_one : FormulaIsOne
formula_is_one text number logic f g p q e = same_whole_formula f g (sym (formula_read text number logic f p) ∙ ap (run number logic (start of_formula)) e ∙ formula_read text number logic g q)

pub stays_wrong : (number : List ℕ → ℕ) (logic : Logic) (bs : List ℕ) → run number logic wrong bs ≡ wrong
stays_wrong number logic [] = refl
stays_wrong number logic (b ∷ bs) = stays_wrong number logic bs

IsGoing-front : (number : List ℕ → ℕ) (logic : Logic) (n : Next) (bs : List ℕ) → IsGoing (run number logic n bs) → IsGoing n
IsGoing-front number logic (on q) bs h = tt
IsGoing-front number logic (whole_term t) bs h = tt
IsGoing-front number logic (whole_formula f) bs h = tt
IsGoing-front number logic wrong bs h = subst IsGoing (stays_wrong number logic bs) h

module _ (text : ℕ → List ℕ) (number : List ℕ → ℕ) (back : GivesBack text number) (logic : Logic) (wanted : Use) where
  -- what was read is live, and has the bytes
  record Holds (n : Next) (f : List ℕ → List ℕ) : Type 0 where
    live : IsLiveNext text number logic wanted n
    spells : Spells text logic n f

  Holds-go : (n : Next) (b : ℕ) (f : List ℕ → List ℕ) → Holds n f → Holds (go number logic n b) (λ rest. f (b ∷ rest))
  Holds-go (on q) b f h = record {
    live = IsLiveNext-next text number wanted back logic q b h.live;
    spells = Spells-same text logic (next number logic q b) _ _ (λ rest. h.spells (b ∷ rest)) (Spells-next text number back logic wanted q b h.live);
  }
  Holds-go (whole_term t) b f h = record { live = tt; spells = tt }
  Holds-go (whole_formula g) b f h = record { live = tt; spells = tt }
  Holds-go wrong b f h = record { live = tt; spells = tt }

  Holds-run : (bs : List ℕ) (n : Next) (f : List ℕ → List ℕ) → Holds n f → Holds (run number logic n bs) (λ rest. f (bs ++ rest))
  Holds-run [] n f h = h
  Holds-run (b ∷ bs) n f h = Holds-run bs (go number logic n b) (λ rest. f (b ∷ rest)) (Holds-go n b f h)

  Holds-begins : (n : Next) (bytes : List ℕ) → Holds n (λ rest. bytes ++ rest) → IsGoing n → BeginsLine text number logic wanted bytes
  Holds-begins (on q) bytes h going = let c = complete-begun text number wanted back logic q h.live in (c.0, subst (IsLine text number logic wanted) (h.spells c.0) c.1)
  Holds-begins (whole_term t) bytes h going = ([], subst (λ u. IsLine text number logic u (bytes ++ [])) (sym h.live.0) (t, h.live.1, h.spells []))
  Holds-begins (whole_formula f) bytes h going = ([], subst (λ u. IsLine text number logic u (bytes ++ [])) (sym h.live.0) (f, h.live.1, h.spells []))
  Holds-begins wrong bytes h going = absurd going

Holds-start : (text : ℕ → List ℕ) (number : List ℕ → ℕ) (back : GivesBack text number) (logic : Logic) (wanted : Use) → Holds text number back logic wanted (start wanted) (λ rest. rest)
Holds-start text number back logic of_term = record { live = refl; spells = λ rest. refl }
Holds-start text number back logic of_formula = record { live = refl; spells = λ rest. refl }

holds : (text : ℕ → List ℕ) (number : List ℕ → ℕ) (back : GivesBack text number) (logic : Logic) (wanted : Use) (bytes : List ℕ) → Holds text number back logic wanted (run number logic (start wanted) bytes) (λ rest. bytes ++ rest)
holds text number back logic wanted bytes = Holds-run text number back logic wanted bytes (start wanted) (λ rest. rest) (Holds-start text number back logic wanted)

pub line_goes : (text : ℕ → List ℕ) (number : List ℕ → ℕ) (logic : Logic) (wanted : Use) (bytes : List ℕ) → IsLine text number logic wanted bytes → IsGoing (run number logic (start wanted) bytes)
line_goes text number logic of_term bytes h = subst IsGoing (sym (ap (run number logic (start of_term)) (sym h.2) ∙ term_read text number logic h.0 h.1)) tt
line_goes text number logic of_formula bytes h = subst IsGoing (sym (ap (run number logic (start of_formula)) (sym h.2) ∙ formula_read text number logic h.0 h.1)) tt

pub going_begins : GoingBegins
going_begins text number back logic wanted bytes = (
  Holds-begins text number back logic wanted (run number logic (start wanted) bytes) bytes (holds text number back logic wanted bytes),
  λ b. IsGoing-front number logic (run number logic (start wanted) bytes) b.0 (subst IsGoing (run-append number logic (start wanted) bytes b.0) (line_goes text number logic wanted (bytes ++ b.0) b.1)),
)

pub term_is_whole : TermIsWhole
term_is_whole text number back logic bytes t = (forth, λ h. ap (run number logic (start of_term)) (sym h.1) ∙ term_read text number logic t h.0)
  where
    forth : run number logic (start of_term) bytes ≡ whole_term t → IsPlainTerm text number 0 t × (plain_term text t (10 ∷ []) ≡ bytes)
    forth e = let h = subst (λ n. Holds text number back logic of_term n (λ rest. bytes ++ rest)) e (holds text number back logic of_term bytes) in (h.live.1, h.spells [] ∙ append-nil bytes)

pub formula_is_whole : FormulaIsWhole
formula_is_whole text number back logic bytes f = (forth, λ h. ap (run number logic (start of_formula)) (sym h.1) ∙ formula_read text number logic f h.0)
  where
    forth : run number logic (start of_formula) bytes ≡ whole_formula f → IsPlainFormula text number logic 0 f × (plain_formula text logic 0 f (10 ∷ []) ≡ bytes)
    forth e = let h = subst (λ n. Holds text number back logic of_formula n (λ rest. bytes ++ rest)) e (holds text number back logic of_formula bytes) in (h.live.1, h.spells [] ∙ append-nil bytes)
