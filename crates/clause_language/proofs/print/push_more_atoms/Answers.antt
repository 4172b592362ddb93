use Rattle.std.proofs.Common.{rules, ◌≡◌, ◌+◌, ◌<◌, ◌∷◌, ◌++◌, [], drop, length, sym, ap, ◌∙◌, codes}
use Rattle.std.proofs.lemmas.List.{drop_more}
use Rattle.clause_language.specs.Text.{atom_before, more_atoms_before}
use Rattle.clause_language.proofs.PrintFacts.{one-written, behind, atom-append}
use Rattle.clause_language.proofs.print.push_more_atoms.Goals as goal

pub loop-atom-preserved : goal.loop-atom-preserved
loop-atom-preserved c =
    let low : c.loop-atom.atom-index < length c.args.atoms.now = search rules in
    let parts : drop c.loop-atom.atom-index c.args.atoms.now ≡ c.atom-item.result ∷ drop (c.loop-atom.atom-index + 1) c.args.atoms.now =
    drop_more c.args.atoms.now c.loop-atom.atom-index c.atom-item.result low ∙ ap (λ one. one ∷ drop (c.loop-atom.atom-index + 1) c.args.atoms.now) (sym c.atom-item.is) in
    record {
      text = one-written _ _ (λ bytes. codes ", " ++ atom_before c.args.names.now c.atom-item.result bytes) (λ xs ys. ap (λ bytes. codes ", " ++ bytes) (atom-append c.args.names.now c.atom-item.result xs ys)) (behind _ _ _ c.in_ok-extend_from_slice.ensures.items c.in_ok-print_atom.ensures.ok) (ap (λ ones. c.loop-atom.out.items ++ more_atoms_before c.args.names.now ones []) (sym parts) ∙ c.loop-atom.invariant.text);
      named = (rw parts at c.loop-atom.invariant.named).1;
    }
