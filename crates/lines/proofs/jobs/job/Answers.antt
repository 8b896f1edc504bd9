use Rattle.std.proofs.Common.{rules, ◌≡◌, ℕ, List, codes, arith}
use Rattle.std.proofs.lemmas.Slice.Eq.{text_from_reads}
use Rattle.lines.specs.Words.{TwoWords}
use Rattle.lines.specs.Lines.{NoJob}
use Rattle.lines.proofs.NoJobs.{no_one_word, no_job}
use Rattle.lines.proofs.jobs.job.Goals as goal

pub returns-in-form : goal.returns-in-form
returns-in-form c =
    let key : c.args.key.now ≡ codes "form" = text_from_reads _ (codes "form") (omega arith) (search rules) in
    search (rules, no_one_word)

pub returns-in-inverse : goal.returns-in-inverse
returns-in-inverse c =
    let key : c.args.key.now ≡ codes "inverse" = text_from_reads _ (codes "inverse") (omega arith) (search rules) in
    search (rules, no_one_word)

pub returns-in-length : goal.returns-in-length
returns-in-length c =
    let key : c.args.key.now ≡ codes "length" = text_from_reads _ (codes "length") (omega arith) (search rules) in
    search (rules, no_one_word)

pub returns-in-descents : goal.returns-in-descents
returns-in-descents c =
    let key : c.args.key.now ≡ codes "descents" = text_from_reads _ (codes "descents") (omega arith) (search rules) in
    search (rules, no_one_word)

pub returns-in-file : goal.returns-in-file
returns-in-file c =
    let key : c.args.key.now ≡ codes "file" = text_from_reads _ (codes "file") (omega arith) (search rules) in
    search (rules, no_one_word)

pub returns-in-withdraw : goal.returns-in-withdraw
returns-in-withdraw c =
    let key : c.args.key.now ≡ codes "withdraw" = text_from_reads _ (codes "withdraw") (omega arith) (search rules) in
    search (rules, no_one_word)

pub returns-in-tally : goal.returns-in-tally
returns-in-tally c =
    let key : c.args.key.now ≡ codes "tally" = text_from_reads _ (codes "tally") (omega arith) (search rules) in
    search (rules, no_one_word)

pub returns-in-product : goal.returns-in-product
returns-in-product c =
    let key : c.args.key.now ≡ codes "product" = text_from_reads _ (codes "product") (omega arith) (search rules) in
    let no_words : ((u w : List ℕ) → TwoWords c.args.value.now u w → ⊥) → NoJob c.args.key.now c.args.value.now =
    λ none. no_job (search rules) (search rules) (search rules) (search rules) (search rules) (search rules) (search rules) (λ _. none) (search rules) (search rules) in
    search (rules, no_words)

pub returns-in-distance : goal.returns-in-distance
returns-in-distance c =
    let key : c.args.key.now ≡ codes "distance" = text_from_reads _ (codes "distance") (omega arith) (search rules) in
    let no_words : ((u w : List ℕ) → TwoWords c.args.value.now u w → ⊥) → NoJob c.args.key.now c.args.value.now =
    λ none. no_job (search rules) (search rules) (search rules) (search rules) (search rules) (search rules) (search rules) (search rules) (λ _. none) (search rules) in
    search (rules, no_words)

pub returns-in_default : goal.returns-in_default
returns-in_default c = no_job (search rules) (search rules) (search rules) (search rules) (search rules) (search rules) (search rules) (search rules) (search rules) (search rules)
