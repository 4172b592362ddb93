use Rattle.std.proofs.Common.{ℕ, List, [], ◌∷◌, refl}
use Rattle.fpc_terms.specs.Text.{name_in}
use Rattle.clause_language.specs.Program.{words}
use Rattle.clause_language.proofs.Words.{all_places-texts}
use Rattle.clause_language.proofs.word_ids.WordIds.new.Goals as goal

pub returns-clause-words : goal.returns-clause-words
returns-clause-words c =
    let elsewhere : List ℕ =
    c.index-ids-0.result ∷ c.index-ids-1.result ∷ c.index-ids-2.result ∷ c.index-ids-3.result ∷ c.index-ids-4.result ∷ c.index-ids-5.result ∷
    c.index-ids-6.result ∷ c.index-ids-7.result ∷ c.index-ids-8.result ∷ c.index-ids-9.result ∷ c.index-ids-10.result ∷ c.index-ids-11.result ∷
    c.index-ids-12.result ∷ c.index-ids-13.result ∷ c.index-ids-14.result ∷ c.index-ids-15.result ∷ c.index-ids-16.result ∷ c.index-ids-17.result ∷
    c.index-ids-18.result ∷ c.index-ids-19.result ∷ c.index-ids-20.result ∷ c.index-ids-21.result ∷ c.index-ids-22.result ∷ c.index-ids-23.result ∷
    c.index-ids-24.result ∷ c.index-ids-25.result ∷ c.index-ids-26.result ∷ c.index-ids-27.result ∷ c.index-ids-28.result ∷ c.index-ids-29.result ∷
    c.index-ids-30.result ∷ c.index-ids-31.result ∷ c.index-ids-32.result ∷ c.index-ids-33.result ∷ c.index-ids-34.result ∷ c.index-ids-35.result ∷
    c.index-ids-36.result ∷ c.index-ids-37.result ∷ [] in
    all_places-texts words (name_in c.intern_words.new.names) c.in_ok-ids.ids elsewhere c.in_ok-ids.ensures.words refl
