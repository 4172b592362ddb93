-- The table of the search over clauses alone: its one sequent has no goal list.
use Rattle.std.specs.Prelude.{List, [], refl}
use Rattle.std.proofs.Common.{arith}
use Rattle.clause_language.specs.declared.clause.Clause.{Clause}
use Rattle.search_model.specs.Lawful.{IsComplete}
use Rattle.search_model.specs.Table.{Table, calculus_of, AreSequents, IsTable}
use Rattle.search_model.specs.TableLaws.{AreSoundLines}

abbrev pub no_table : Table
no_table = record {
  SequentOf = Unit {0};
  put_sequent = λ s q. q;
  IsOpenSequent = λ k q. Unit {0};
  IsScopedSequent = λ levels n q. Unit {0};
  root_of = λ f. tt;
  expand = λ x k. [];
  Completed = λ x steps. ⊥;
}

pub no_table_sequents : AreSequents no_table
no_table_sequents = record {
  sequent-put = λ s r q. refl;
  sequent_same = λ q. refl;
  sequent_agrees = λ k s r same q o. refl;
  open_put = λ j k r h q o. tt;
  open_more = λ j k l q o. tt;
  scoped_put = λ levels after r h n q scoped. tt;
  scoped_more = λ levels more n q scoped. tt;
}

pub no_table_is_table : IsTable no_table
no_table_is_table = record {
  levels = λ x k e one. absurd (omega (arith, one.1));
  few = λ x k e one. absurd (omega (arith, one.1));
  root_open = λ f closed. tt;
  root_scoped = λ f closed. tt;
  natural = λ j k r h x o. refl;
}

pub no_table_sound : (clauses : List Clause) → AreSoundLines no_table clauses
no_table_sound clauses = record {
  expands = λ levels x o scoped e one. absurd (omega (arith, one.1));
  sound = λ levels x o scoped e one s closing steps h. absurd (omega (arith, one.1));
}

pub no_table_complete : (clauses : List Clause) → IsComplete (calculus_of no_table) clauses
no_table_complete clauses = record {
  given = λ levels x o scoped s closing steps completed. absurd completed;
}
