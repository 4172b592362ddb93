-- The text of a definition or a certificate says the tokens that it spells, and nothing else.
use Rattle.std.proofs.Common.{◌≡◌, ℕ, zero, suc, ◌+◌, ◌^◌, ◌≤◌, true, List, [], ◌∷◌, ◌++◌, codes, map, refl, arith}
use Rattle.std.specs.Fmt.{decimal}
use Rattle.fpc_base.specs.declared.tokens.TokenKind.TheVariants.{Word, Symbol}
use Rattle.fpc_base.specs.declared.tokens.lexeme.Sign.TheVariants as sign
use Rattle.fpc_base.specs.Lexeme.{Lexeme, a_name, a_variable, a_sign, items_of}
use Rattle.fpc_terms.specs.Term.{Term, Args, eigen, bound, variable, app, no_args, arg, Each, EachArg, Never}
use Rattle.fpc_terms.specs.Text.{Leaves, name_in, plain_leaves, term_before, args_before, more_before}
use Rattle.fpc_terms.specs.Written.{term_tokens, args_tokens, more_tokens}
use Rattle.polarised_formulas.specs.declared.logic.Logic.{Logic}
use Rattle.polarised_formulas.specs.declared.logic.Logic.TheVariants.{Lkf, Ljf}
use Rattle.polarised_formulas.specs.Text.{named_style, formula_before, logic_text}
use Rattle.polarised_formulas.specs.Written.{formula_tokens, logic_word}
use Rattle.polarised_formulas.specs.WrittenOf.{written_of, IsNamed, AreNamed}
use Rattle.polarised_formulas.specs.Spoken.{Says}
use Rattle.polarised_formulas.proofs.Pieces.{Scans, stops, scans-piece, scans-name, scans-blank, scans-end, scans-open, scans-close, scans-comma, scans-dot}
use Rattle.clause_language.specs.declared.atom.Atom.{Atom}
use Rattle.clause_language.specs.declared.clause.Clause.{Clause}
use Rattle.clause_language.specs.declared.declaration.DeclaredFormula.{DeclaredFormula}
use Rattle.clause_language.specs.declared.definition.Definition.{Definition}
use Rattle.clause_language.specs.declared.certificate.Certificate.{Certificate}
use Rattle.clause_language.specs.Written.{WrittenItem, more_atom_tokens, body_tokens, clause_tokens, more_parameter_tokens, parameter_tokens, item_tokens, items_tokens}
use Rattle.clause_language.specs.Text.{more_atoms_before, body_before, clause_before, parameter_text, more_parameters_before, parameters_before, declaration_before, declared_before, clauses_before, file_before, definition_text, term_line, certificate_text}
use Rattle.clause_language.specs.Spelled.{spelled_term, spelled_args, spelled_atom, spelled_clause, parameters_from, spelled_declaration, spelled_clauses, spelled_declared, spelled_items}
use Rattle.clause_language.specs.Order.{term_of_atom, atoms_as_args, atoms_of}
use Rattle.clause_language.specs.Printable.{Below, AreClausesPrintable, IsDeclarationPrintable, AreDeclaredPrintable}
use Rattle.clause_language.proofs.VariableOrder.{below-args}
use Rattle.clause_language.proofs.NumberedTexts.{scans-parameter, scans-numbered}
use Rattle.clause_language.proofs.FormulaScan.{scans-formula}

-- the end of a line behind a dot
scans-line : (rest : List ℕ) (cs : List Lexeme) → Scans cs rest → Scans (a_sign sign.Dot ∷ cs) (codes ".\n" ++ rest)
scans-line rest cs h = scans-dot (10 ∷ rest) cs (scans-end rest cs h)

-- signs between blanks, and words
scans-if : (rest : List ℕ) (cs : List Lexeme) → Scans cs rest → Scans (a_sign sign.If ∷ cs) (codes " :- " ++ rest)
scans-if rest cs h = scans-blank (codes ":- " ++ rest) (a_sign sign.If ∷ cs) (scans-piece Symbol 58 (45 ∷ []) (32 ∷ rest) cs refl (scans-blank rest cs h))

scans-defined : (rest : List ℕ) (cs : List Lexeme) → Scans cs rest → Scans (a_sign sign.Defined ∷ cs) (codes " := " ++ rest)
scans-defined rest cs h = scans-blank (codes ":= " ++ rest) (a_sign sign.Defined ∷ cs) (scans-piece Symbol 58 (61 ∷ []) (32 ∷ rest) cs refl (scans-blank rest cs h))

scans-formula_word : (rest : List ℕ) (cs : List Lexeme) → Scans cs rest → Scans (a_sign sign.Formula ∷ cs) (codes "formula " ++ rest)
scans-formula_word rest cs h = scans-piece Word 102 (codes "ormula") (32 ∷ rest) cs refl (scans-blank rest cs h)

scans-certificate_word : (rest : List ℕ) (cs : List Lexeme) → Scans cs rest → Scans (a_sign sign.Certificate ∷ cs) (codes "certificate " ++ rest)
scans-certificate_word rest cs h = scans-piece Word 99 (codes "ertificate") (32 ∷ rest) cs refl (scans-blank rest cs h)

scans-comma_blank : (rest : List ℕ) (cs : List Lexeme) → Scans cs rest → Scans (a_sign sign.Comma ∷ cs) (codes ", " ++ rest)
scans-comma_blank rest cs h = scans-comma (32 ∷ rest) cs (scans-blank rest cs h)

module _ (names : List (List ℕ)) where
  abbrev leaves : Leaves
  leaves = plain_leaves (name_in names)

  more-stop : (ts : Args) (rest : List ℕ) → stops (more_before leaves ts rest) ≡ true
  more-stop no_args rest = refl
  more-stop (arg t ts) rest = refl

  args-stop : (ts : Args) (rest : List ℕ) → stops rest ≡ true → stops (args_before leaves ts rest) ≡ true
  args-stop no_args rest s = s
  args-stop (arg t ts) rest s = refl

  module _ (m : ℕ) (le : m ≤ 2 ^ 64) where
    mutual
      scans-term : (t : Term) (rest : List ℕ) (cs : List Lexeme) → Each Never Never (Below m) t → IsNamed names t → stops rest ≡ true → Scans cs rest
          → Scans (term_tokens (spelled_term names t) cs) (term_before leaves t rest)
      scans-term (eigen k) rest cs b named s h = absurd b
      scans-term (bound k) rest cs b named s h = absurd b
      scans-term (variable v) rest cs b named s h = scans-numbered v rest cs (omega (arith, le, b)) s h
      scans-term (app f ts) rest cs b named s h =
          scans-name (name_in names f) (args_before leaves ts rest) (args_tokens (spelled_args names ts) cs) named.0 (args-stop ts rest s) (scans-args ts rest cs b named.1 s h)

      -- arguments in parentheses, where there are any
      scans-args : (ts : Args) (rest : List ℕ) (cs : List Lexeme) → EachArg Never Never (Below m) ts → AreNamed names ts → stops rest ≡ true → Scans cs rest
          → Scans (args_tokens (spelled_args names ts) cs) (args_before leaves ts rest)
      scans-args no_args rest cs b named s h = h
      scans-args (arg t ts) rest cs b named s h =
          scans-open (term_before leaves t (more_before leaves ts rest)) (term_tokens (spelled_term names t) (more_tokens (spelled_args names ts) cs))
          (scans-term t (more_before leaves ts rest) (more_tokens (spelled_args names ts) cs) b.0 named.0 (more-stop ts rest) (scans-more ts rest cs b.1 named.1 h))

      scans-more : (ts : Args) (rest : List ℕ) (cs : List Lexeme) → EachArg Never Never (Below m) ts → AreNamed names ts → Scans cs rest
          → Scans (more_tokens (spelled_args names ts) cs) (more_before leaves ts rest)
      scans-more no_args rest cs b named h = scans-close rest cs h
      scans-more (arg t ts) rest cs b named h =
          scans-comma (term_before leaves t (more_before leaves ts rest)) (term_tokens (spelled_term names t) (more_tokens (spelled_args names ts) cs))
          (scans-term t (more_before leaves ts rest) (more_tokens (spelled_args names ts) cs) b.0 named.0 (more-stop ts rest) (scans-more ts rest cs b.1 named.1 h))

    more_atoms-stop : (more : List Atom) (rest : List ℕ) → stops (more_atoms_before names more (codes ".\n" ++ rest)) ≡ true
    more_atoms-stop [] rest = refl
    more_atoms-stop (a ∷ more) rest = refl

    body-stop : (body : List Atom) (rest : List ℕ) → stops (body_before names body (codes ".\n" ++ rest)) ≡ true
    body-stop [] rest = refl
    body-stop (a ∷ more) rest = refl

    -- the atoms of a body
    scans-more_atoms : (more : List Atom) (rest : List ℕ) (cs : List Lexeme) → EachArg Never Never (Below m) (atoms_as_args more) → AreNamed names (atoms_as_args more) → Scans cs rest
        → Scans (more_atom_tokens (map (spelled_atom names) more) cs) (more_atoms_before names more (codes ".\n" ++ rest))
    scans-more_atoms [] rest cs b named h = scans-line rest cs h
    scans-more_atoms (a ∷ more) rest cs b named h =
        let text : List ℕ = more_atoms_before names more (codes ".\n" ++ rest) in
        let tokens : List Lexeme = more_atom_tokens (map (spelled_atom names) more) cs in
        scans-comma_blank (term_before leaves (term_of_atom a) text) (term_tokens (spelled_term names (term_of_atom a)) tokens)
        (scans-term (term_of_atom a) text tokens b.0 named.0 (more_atoms-stop more rest) (scans-more_atoms more rest cs b.1 named.1 h))

    scans-body : (body : List Atom) (rest : List ℕ) (cs : List Lexeme) → EachArg Never Never (Below m) (atoms_as_args body) → AreNamed names (atoms_as_args body) → Scans cs rest
        → Scans (body_tokens (map (spelled_atom names) body) cs) (body_before names body (codes ".\n" ++ rest))
    scans-body [] rest cs b named h = scans-line rest cs h
    scans-body (a ∷ more) rest cs b named h =
        let text : List ℕ = more_atoms_before names more (codes ".\n" ++ rest) in
        let tokens : List Lexeme = more_atom_tokens (map (spelled_atom names) more) cs in
        scans-if (term_before leaves (term_of_atom a) text) (term_tokens (spelled_term names (term_of_atom a)) tokens)
        (scans-term (term_of_atom a) text tokens b.0 named.0 (more_atoms-stop more rest) (scans-more_atoms more rest cs b.1 named.1 h))

    scans-clause : (c : Clause) (rest : List ℕ) (cs : List Lexeme) → EachArg Never Never (Below m) (atoms_of c) → AreNamed names (atoms_of c) → Scans cs rest
        → Scans (clause_tokens (spelled_clause names c) cs) (clause_before names c rest)
    scans-clause c rest cs b named h =
        scans-term (term_of_atom c.head) (body_before names c.body (codes ".\n" ++ rest)) (body_tokens (map (spelled_atom names) c.body) cs) b.0 named.0 (body-stop c.body rest)
        (scans-body c.body rest cs b.1 named.1 h)

  -- the parameters of a declared formula
  more_parameters-stop : (k n : ℕ) (rest : List ℕ) → stops (more_parameters_before k n rest) ≡ true
  more_parameters-stop k zero rest = refl
  more_parameters-stop k (suc n) rest = refl

  scans-more_parameters : (k n : ℕ) (rest : List ℕ) (cs : List Lexeme) → k + n ≤ 2 ^ 64 → Scans cs rest
      → Scans (more_parameter_tokens (parameters_from k n) cs) (more_parameters_before k n rest)
  scans-more_parameters k zero rest cs le h = scans-close rest cs h
  scans-more_parameters k (suc n) rest cs le h =
      scans-comma (80 ∷ (decimal k ++ more_parameters_before (suc k) n rest)) (a_variable (parameter_text k) ∷ more_parameter_tokens (parameters_from (suc k) n) cs)
      (scans-parameter k (more_parameters_before (suc k) n rest) (more_parameter_tokens (parameters_from (suc k) n) cs) (omega (arith, le)) (more_parameters-stop (suc k) n rest)
      (scans-more_parameters (suc k) n rest cs (omega (arith, le)) h))

  scans-parameters : (n : ℕ) (rest : List ℕ) (cs : List Lexeme) → n ≤ 2 ^ 64 → Scans cs rest
      → Scans (parameter_tokens (parameters_from 0 n) cs) (parameters_before n rest)
  scans-parameters zero rest cs le h = h
  scans-parameters (suc n) rest cs le h =
      scans-open (80 ∷ (decimal 0 ++ more_parameters_before 1 n rest)) (a_variable (parameter_text 0) ∷ more_parameter_tokens (parameters_from 1 n) cs)
      (scans-parameter 0 (more_parameters_before 1 n rest) (more_parameter_tokens (parameters_from 1 n) cs) (omega arith) (more_parameters-stop 1 n rest)
      (scans-more_parameters 1 n rest cs (omega (arith, le)) h))

  parameters-stop : (n : ℕ) (rest : List ℕ) → stops rest ≡ true → stops (parameters_before n rest) ≡ true
  parameters-stop zero rest s = s
  parameters-stop (suc n) rest s = refl

  scans-declaration : (logic : Logic) (d : DeclaredFormula) (rest : List ℕ) (cs : List Lexeme) → IsDeclarationPrintable names logic d → Scans cs rest
      → Scans (item_tokens logic (spelled_declaration names d) cs) (declaration_before names logic d rest)
  scans-declaration logic d rest cs p h =
      let at_most = p.at_most in
      let deep = p.deep in
      let formula_text : List ℕ = formula_before (named_style (name_in names)) logic 0 d.formula (codes ".\n" ++ rest) in
      let the_tokens : List Lexeme = formula_tokens logic (written_of names 0 d.formula) (a_sign sign.Dot ∷ cs) in
      scans-formula_word (name_in names d.name ++ parameters_before d.parameters (codes " := " ++ formula_text))
      (a_name (name_in names d.name) ∷ parameter_tokens (parameters_from 0 d.parameters) (a_sign sign.Defined ∷ the_tokens))
      (scans-name (name_in names d.name) (parameters_before d.parameters (codes " := " ++ formula_text)) (parameter_tokens (parameters_from 0 d.parameters) (a_sign sign.Defined ∷ the_tokens))
      p.named (parameters-stop d.parameters (codes " := " ++ formula_text) refl)
      (scans-parameters d.parameters (codes " := " ++ formula_text) (a_sign sign.Defined ∷ the_tokens) (omega (arith, at_most))
      (scans-defined formula_text the_tokens
      (scans-formula names d.parameters (omega (arith, at_most)) logic 0 d.formula (codes ".\n" ++ rest) (a_sign sign.Dot ∷ cs) (omega (arith, deep)) p.is_scoped p.has_names refl
      (scans-line rest cs h)))))

  -- items
  scans-declared : (logic : Logic) (ds : List DeclaredFormula) (items : List WrittenItem) (rest : List ℕ) (cs : List Lexeme) → AreDeclaredPrintable names logic ds
      → Scans (items_tokens logic items cs) rest → Scans (items_tokens logic (spelled_declared names ds items) cs) (declared_before names logic ds rest)
  scans-declared logic [] items rest cs p h = h
  scans-declared logic (d ∷ ds) items rest cs p h =
      scans-declaration logic d (declared_before names logic ds rest) (items_tokens logic (spelled_declared names ds items) cs) p.0 (scans-declared logic ds items rest cs p.1 h)

  scans-clauses : (logic : Logic) (clauses : List Clause) (rest : List ℕ) (cs : List Lexeme) → AreClausesPrintable names clauses → Scans cs rest
      → Scans (items_tokens logic (spelled_clauses names clauses) cs) (clauses_before names clauses rest)
  scans-clauses logic [] rest cs p h = h
  scans-clauses logic (c ∷ more) rest cs p h =
      let first = p.0 in
      let at_most = first.at_most in
      let counted = first.counted in
      scans-clause c.variables (omega (arith, at_most)) c (clauses_before names more rest) (items_tokens logic (spelled_clauses names more) cs)
      (below-args c.variables (atoms_of c) 0 first.ordered (omega (arith, counted))) first.named (scans-clauses logic more rest cs p.1 h)

  scans-logic : (logic : Logic) (rest : List ℕ) (cs : List Lexeme) → Scans cs rest → Scans (logic_word logic ∷ cs) (logic_text logic ++ 10 ∷ rest)
  scans-logic Lkf rest cs h = scans-name (codes "lkf") (10 ∷ rest) cs (refl, refl) refl (scans-end rest cs h)
  scans-logic Ljf rest cs h = scans-name (codes "ljf") (10 ∷ rest) cs (refl, refl) refl (scans-end rest cs h)

  scans-file : (logic : Logic) (declared : List DeclaredFormula) (clauses : List Clause) (rest : List ℕ) (cs : List Lexeme) → AreDeclaredPrintable names logic declared
      → AreClausesPrintable names clauses → Scans cs rest
      → Scans (logic_word logic ∷ items_tokens logic (spelled_items names declared clauses) cs) (file_before names logic declared clauses rest)
  scans-file logic declared clauses rest cs p q h =
      scans-logic logic (declared_before names logic declared (clauses_before names clauses rest)) (items_tokens logic (spelled_items names declared clauses) cs)
      (scans-declared logic declared (spelled_clauses names clauses) (clauses_before names clauses rest) cs p (scans-clauses logic clauses rest cs q h))

  -- SCAN: the text of a definition says its tokens
  pub Says-definition_text : (d : Definition) → AreDeclaredPrintable names d.logic d.declared → AreClausesPrintable names d.clauses
      → Says (logic_word d.logic ∷ items_tokens d.logic (spelled_items names d.declared d.clauses) []) (items_of (definition_text names d))
  Says-definition_text d p q = scans-file d.logic d.declared d.clauses [] [] p q (λ at. tt) 0

  -- and that of a certificate
  pub Says-certificate_text : (c : Certificate) → AreDeclaredPrintable names c.logic c.declared → AreClausesPrintable names c.clauses
      → c.variables ≤ 2 ^ 64 → Each Never Never (Below c.variables) c.term → IsNamed names c.term
      → Says (logic_word c.logic ∷ items_tokens c.logic (spelled_items names c.declared c.clauses) (a_sign sign.Certificate ∷ term_tokens (spelled_term names c.term) (a_sign sign.Dot ∷ [])))
      (items_of (certificate_text names c))
  Says-certificate_text c p q le b named =
      let last : List Lexeme = term_tokens (spelled_term names c.term) (a_sign sign.Dot ∷ []) in
      scans-file c.logic c.declared c.clauses (term_line names c.term) (a_sign sign.Certificate ∷ last) p q
      (scans-certificate_word (term_before leaves c.term (codes ".\n")) last
      (scans-term c.variables le c.term (codes ".\n") (a_sign sign.Dot ∷ []) b named refl (scans-line [] [] (λ at. tt)))) 0
