-- What may be cut: declared formulas with terms for their parameters.
use Rattle.std.proofs.Common.{◌≡◌, ◌<◌, ℕ, List, Contains, subst}
use Rattle.std.specs.List.{All}
use Rattle.std.proofs.lemmas.List.Elements.{All-contains, All-weaker}
use Rattle.fpc_terms.specs.Term.{Term, Never, InScope}
use Rattle.fpc_terms.proofs.PutFacts.{each_more}
use Rattle.polarised_formulas.specs.declared.logic.Logic.{Logic}
use Rattle.polarised_formulas.specs.declared.logic.Logic.TheVariants.{Lkf}
use Rattle.polarised_formulas.specs.Formula.{Formula, truth, falsity, atom, conj, disj, implies, for_all, exists, Tied, IsProper, IsLkf}
use Rattle.clause_language.specs.Program.{IsDeclarationOf, IsOpenProgram}
use Rattle.clause_language.specs.declared.declaration.DeclaredFormula.{DeclaredFormula}
use Rattle.clause_language.specs.declared.program.Program.{Program}
use Rattle.polarised_formulas.specs.OpenFormula.{put_formula}
use Rattle.polarised_formulas.proofs.OpenFormulaFacts.{inside_put}

-- a formula of LKF with terms for its variables
pub lkf_put : (s : ℕ → Term) (f : Formula) → IsLkf f → IsLkf (put_formula s f)
lkf_put s (truth p) h = tt
lkf_put s (falsity p) h = tt
lkf_put s (atom b f ts) h = tt
lkf_put s (conj p a b) h = (lkf_put s a h.0, lkf_put s b h.1)
lkf_put s (disj p a b) h = (lkf_put s a h.0, lkf_put s b h.1)
lkf_put s (implies a b) h = h
lkf_put s (for_all a) h = lkf_put s a h
lkf_put s (exists a) h = lkf_put s a h

-- a declared formula with terms in scope for its parameters is in scope
pub declared_scoped : (l : Logic) (d : DeclaredFormula) (n : ℕ) (ts : ℕ → Term)
    → ((i : ℕ) → i < d.parameters → InScope n (ts i)) → IsDeclarationOf l d
    → IsProper (λ m. m < n) (put_formula ts d.formula)
declared_scoped l d n ts scoped h =
    inside_put Never Tied (λ v. v < d.parameters) (λ m. m < n) Tied Never (λ m q. absurd q) (λ e m q. q) ts
    (λ e v l. each_more (λ m. m < n) Never Never (λ m. m < n) (Tied e) Never (λ m q. q) (λ m q. absurd q) (λ m q. q) (ts v) (scoped v l))
    0 d.formula h.is_scoped

-- the declared formulas of a program of LKF are of LKF
pub all_lkf : (p : Program) → IsOpenProgram p → p.logic ≡ Lkf → All (λ (d : DeclaredFormula). IsLkf d.formula) p.declared
all_lkf p h e =
    All-weaker (IsDeclarationOf Lkf) (λ (d : DeclaredFormula). IsLkf d.formula) (λ d k. k.in_logic) p.declared
    (subst (λ (l : Logic). All (IsDeclarationOf l) p.declared) e h.formulas)
