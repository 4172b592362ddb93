-- What the search over clauses alone accepts is a ground instance of what was asked, and holds.
use Rattle.std.specs.Prelude.{ℕ, ◌≡◌, None, List, [], map, replicate}
use Rattle.std.specs.List.{All}
use Rattle.std.proofs.Common.{refl, ap, sym, subst}
use Rattle.std.proofs.lemmas.List.{length-replicate}
use Rattle.std.proofs.lemmas.List.Elements.{All-nil, All-cons, All-map, All-weaker}
use Rattle.fpc_terms.specs.Term.{Term, put}
use Rattle.fpc_terms.specs.Open.{IsGround, IsOpen, AreOpen, Level}
use Rattle.fpc_terms.proofs.PutFacts.{ground_put}
use Rattle.clause_language.specs.declared.atom.Atom.{Atom}
use Rattle.clause_language.specs.declared.clause.Clause.{Clause}
use Rattle.clause_language.specs.LeastModel.{put_atom, Holds, AreOpenClauses, fits}
use Rattle.search_model.specs.Run.{ended}
use Rattle.search_model.specs.Search.{call, Alternative, accepted}
use Rattle.search_model.specs.Solve.{Nothing, no_calculus, solving, solved_atom}
use Rattle.search_model.specs.Lawful.{IsGoal, IsLawful}
use Rattle.search_model.proofs.Sound.{accepted_ends}
use Rattle.search_model.proofs.ChoiceFacts.{fits_is_choice}

-- the calculus without items and steps is lawful
pub no_calculus_lawful : (clauses : List Clause) → IsLawful no_calculus clauses
no_calculus_lawful clauses = record {
  item-put = λ s r x. refl;
  step-put = λ s r e. refl;
  item_same = λ x. refl;
  step_same = λ e. refl;
  item_agrees = λ k s r same x x_open. absurd x_open;
  step_agrees = λ k s r same e e_open. absurd e_open;
  open_put = λ j k r h x x_open. x_open;
  open_more = λ j k l x x_open. x_open;
  step_open_put = λ j k r h e e_open. e_open;
  step_open_more = λ j k l e e_open. e_open;
  scoped_put = λ levels after r h x x_open scoped. scoped;
  scoped_more = λ levels more x x_open scoped. scoped;
  expands = λ levels x x_open scoped e one. absurd x_open;
  sound = λ levels x x_open scoped e one s closing steps h. x_open;
}

module _ (clauses : List Clause) (b : Atom) where
  -- the atom with these arguments holds, and is an instance of the atom that was asked
  pub record IsSolved (arguments : List Term) : Type 0 where
    pub holds : Holds clauses (record { name = b.name; arguments = arguments })
    pub terms : ℕ → Term
    pub ground : (n : ℕ) → IsGround (terms n)
    pub arguments_are : arguments ≡ map (put terms) b.arguments

  module _ (opens : AreOpenClauses clauses) (variables : ℕ) (b_open : AreOpen variables b.arguments) (any budget units : ℕ)
      (a : Alternative Nothing Nothing) (e : solving clauses budget b variables ≡ ended (accepted a) units) where
    solved : IsSolved (solved_atom any b a).arguments
    solved =
        accepted_ends no_calculus fits fits_is_choice clauses (no_calculus_lawful clauses) (λ arguments steps. IsSolved arguments)
        opens budget (call b) b.arguments variables
        (All-cons (IsGoal no_calculus (replicate variables None)) (call b) []
        (subst (λ k. AreOpen k b.arguments) (sym (length-replicate {A = Level} variables None)) b_open)
        (All-nil (IsGoal no_calculus (replicate variables None))))
        b_open
        (λ s closing steps h. record { holds = h.0; terms = s; ground = closing.ground; arguments_are = refl })
        a units e any

    -- The atom that a search accepts is in the least model.
    pub solved_holds : Holds clauses (solved_atom any b a)
    solved_holds = solved.holds

    -- It is an instance of the atom that was asked, with a ground term for each variable.
    pub solved_instance : (s : ℕ → Term) × ((n : ℕ) → IsGround (s n)) × (solved_atom any b a ≡ put_atom s b)
    solved_instance = (solved.terms, solved.ground, ap (λ ts. record { name = b.name; arguments = ts }) solved.arguments_are)

    -- It is ground.
    pub solved_ground : All IsGround (solved_atom any b a).arguments
    solved_ground =
        subst (All IsGround) (sym solved.arguments_are)
        (All-map IsGround (put solved.terms) b.arguments
        (All-weaker (IsOpen variables) (λ t. IsGround (put solved.terms t)) (ground_put variables solved.terms (λ n l. solved.ground n))
        b.arguments b_open))
