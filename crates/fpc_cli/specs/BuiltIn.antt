-- The texts of the definitions that are built in.
use Rattle.std.specs.Prelude.{ℕ, List, ◌++◌, codes}
use Rattle.fpc_cli.specs.declared.built_in.BuiltIn.{BuiltIn}
use Rattle.fpc_cli.specs.declared.built_in.BuiltIn.TheVariants.{Cnf}

-- `cnf`: a goal is broken up, and each branch closes with two literals that are dual to each other,
-- or with a unit
abbrev pub cnf_text : List ℕ
cnf_text =
    codes "lkf\n" ++ codes "and_c(cnf,cnf,cnf).\n" ++ codes "or_c(cnf,cnf).\n"
    ++ codes "ff_c(cnf,cnf).\n" ++ codes "all_c(cnf,Y,cnf).\n" ++ codes "store_c(cnf,cnf,lit).\n"
    ++ codes "decide_e(cnf,one,lit).\n" ++ codes "init_e(one,lit).\n" ++ codes "tt_e(one).\n"

-- the text of a definition that is built in
abbrev pub built_in_text : BuiltIn → List ℕ
built_in_text Cnf = cnf_text
