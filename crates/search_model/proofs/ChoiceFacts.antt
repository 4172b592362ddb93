-- The choice by name and number of arguments.
use Rattle.std.specs.Prelude.{◌≡◌, ℕ, true, nat_eq, length, map}
use Rattle.std.proofs.Common.{sym, ap, ◌∙◌}
use Rattle.std.proofs.lemmas.Bool.{eq-eqb, and_from}
use Rattle.std.proofs.lemmas.List.{length-map}
use Rattle.fpc_terms.specs.Term.{Term, put}
use Rattle.clause_language.specs.declared.atom.Atom.{Atom}
use Rattle.clause_language.specs.LeastModel.{put_atom, fits}
use Rattle.search_model.specs.Lawful.{IsChoice}

-- an atom and the head of a clause with one instance have one name and as many arguments
instances_fit : (a head : Atom) (s r : ℕ → Term) → put_atom s a ≡ put_atom r head
    → fits a head ≡ true
instances_fit a head s r same =
    let name : a.name ≡ head.name = ap (λ b. b.name) same in
    let middle : length (map (put s) a.arguments) ≡ length (map (put r) head.arguments) =
    ap (λ b. length b.arguments) same in
    let lengths : length a.arguments ≡ length head.arguments =
    sym (length-map a.arguments (put s)) ∙ middle ∙ length-map head.arguments (put r) in
    and_from (nat_eq a.name head.name) (nat_eq (length a.arguments) (length head.arguments))
    (eq-eqb a.name head.name name) (eq-eqb (length a.arguments) (length head.arguments) lengths)

pub fits_is_choice : IsChoice fits
fits_is_choice = record { only = λ a head e. e; each = instances_fit }
