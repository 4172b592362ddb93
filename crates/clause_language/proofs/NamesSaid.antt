-- The names that the tokens of a definition or a certificate say are name tokens.
use Rattle.std.proofs.Common.{ℕ, List, [], ◌∷◌}
use Rattle.fpc_base.specs.declared.tokens.TokenKind.TheVariants.{Name}
use Rattle.fpc_base.specs.declared.tokens.lexeme.Sign.TheVariants as sign
use Rattle.fpc_base.specs.Tokens.{tokens_of, HasForm}
use Rattle.fpc_base.specs.Lexeme.{Lexeme, a_sign, items_of}
use Rattle.fpc_terms.specs.Written.{WrittenTerm, term_tokens}
use Rattle.polarised_formulas.specs.declared.logic.Logic.{Logic}
use Rattle.polarised_formulas.specs.declared.logic.Logic.TheVariants.{Lkf, Ljf}
use Rattle.polarised_formulas.specs.Written.{formula_tokens, logic_word}
use Rattle.polarised_formulas.specs.EachName.{EachName}
use Rattle.polarised_formulas.specs.Spoken.{Says}
use Rattle.polarised_formulas.proofs.Named.{AreFormed-behind, AreNames, AreNames-said, named-term, named-args, named-formula}
use Rattle.clause_language.specs.Written.{WrittenAtom, WrittenItem, declaration, a_clause, more_atom_tokens, body_tokens, more_parameter_tokens, parameter_tokens, item_tokens, items_tokens}
use Rattle.clause_language.specs.EachName.{EachNameOfAtoms, EachNameOfItem, EachNameOfItems}

-- the names of items are among their tokens
named-more_atoms : (more : List WrittenAtom) (rest : List Lexeme) → AreNames (more_atom_tokens more rest) → EachNameOfAtoms (HasForm Name) more × AreNames rest
named-more_atoms [] rest h = (tt, h)
named-more_atoms (a ∷ more) rest h =
    let first = named-args a.args (more_atom_tokens more rest) h.1 in let later = named-more_atoms more rest first.1 in (((h.0, first.0), later.0), later.1)

named-body : (body : List WrittenAtom) (rest : List Lexeme) → AreNames (body_tokens body rest) → EachNameOfAtoms (HasForm Name) body × AreNames rest
named-body [] rest h = (tt, h)
named-body (a ∷ more) rest h =
    let first = named-args a.args (more_atom_tokens more rest) h.1 in let later = named-more_atoms more rest first.1 in (((h.0, first.0), later.0), later.1)

named-more_parameters : (ps : List (List ℕ)) (rest : List Lexeme) → AreNames (more_parameter_tokens ps rest) → AreNames rest
named-more_parameters [] rest h = h
named-more_parameters (x ∷ xs) rest h = named-more_parameters xs rest h

named-parameters : (ps : List (List ℕ)) (rest : List Lexeme) → AreNames (parameter_tokens ps rest) → AreNames rest
named-parameters [] rest h = h
named-parameters (x ∷ xs) rest h = named-more_parameters xs rest h

named-item : (logic : Logic) (i : WrittenItem) (rest : List Lexeme) → AreNames (item_tokens logic i rest) → EachNameOfItem (HasForm Name) i × AreNames rest
named-item logic (declaration x ps w) rest h =
    let f = named-formula logic w (a_sign sign.Dot ∷ rest) (named-parameters ps (a_sign sign.Defined ∷ formula_tokens logic w (a_sign sign.Dot ∷ rest)) h.1) in
    ((h.0, f.0), f.1)
named-item logic (a_clause c) rest h =
    let head = named-args c.head.args (body_tokens c.body rest) h.1 in let body = named-body c.body rest head.1 in (((h.0, head.0), body.0), body.1)

named-items : (logic : Logic) (is : List WrittenItem) (rest : List Lexeme) → AreNames (items_tokens logic is rest) → EachNameOfItems (HasForm Name) is × AreNames rest
named-items logic [] rest h = (tt, h)
named-items logic (i ∷ is) rest h =
    let first = named-item logic i (items_tokens logic is rest) h in let later = named-items logic is rest first.1 in ((first.0, later.0), later.1)

named-word : (logic : Logic) (rest : List Lexeme) → AreNames (logic_word logic ∷ rest) → AreNames rest
named-word Lkf rest h = h.1
named-word Ljf rest h = h.1

-- the names of items that are said by a text are name tokens
pub EachNameOfItems-said : (bytes : List ℕ) (logic : Logic) (is : List WrittenItem) (rest : List Lexeme) → Says (logic_word logic ∷ items_tokens logic is rest) (items_of bytes)
    → EachNameOfItems (HasForm Name) is
EachNameOfItems-said bytes logic is rest h =
    (named-items logic is rest (named-word logic (items_tokens logic is rest)
    (AreNames-said (logic_word logic ∷ items_tokens logic is rest) (tokens_of bytes) (AreFormed-behind bytes 0 0) h))).0

-- and so are those of a certificate's term
pub EachName-said_term : (bytes : List ℕ) (logic : Logic) (is : List WrittenItem) (t : WrittenTerm) (rest : List Lexeme)
    → Says (logic_word logic ∷ items_tokens logic is (a_sign sign.Certificate ∷ term_tokens t rest)) (items_of bytes) → EachName (HasForm Name) t
EachName-said_term bytes logic is t rest h =
    let last : List Lexeme = a_sign sign.Certificate ∷ term_tokens t rest in
    (named-term t rest (named-items logic is last (named-word logic (items_tokens logic is last)
    (AreNames-said (logic_word logic ∷ items_tokens logic is last) (tokens_of bytes) (AreFormed-behind bytes 0 0) h))).1).0
