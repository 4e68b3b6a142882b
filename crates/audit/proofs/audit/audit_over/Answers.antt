use Rattle.std.proofs.Common.{◌≡◌, List, length, Ok, ap, ◌∙◌, ℕ}
use Rattle.memory.specs.Bytes.{words_of}
use Rattle.memory.specs.Meaning.{shown}
use Rattle.audit.specs.Audit.{tables_of, records_audited, words_back}
use Rattle.audit.proofs.Words.{initial_length, initial_words}
use Rattle.audit.proofs.audit.audit_over.Goals as goal

pub work_records-memory-requires-clause-size : goal.work_records-memory-requires-clause-size
work_records-memory-requires-clause-size c =
    let s = c.args.sound.now in
    let f = s.file in
    ap length (initial_words f.words.now c.args.own.now f.header.size c.requires.own s.words_whole s.few_words.1 _ (c.over.ensures.words ∙ c.words_into.ensures))
    ∙ initial_length f.words.now c.args.own.now f.header.size c.requires.own s.words_whole s.few_words.1

pub returns-clause-audited : goal.returns-clause-audited
returns-clause-audited c =
    let s = c.args.sound.now in
    let f = s.file in
    let e : shown c.over.result.words.now ≡ words_of f.words.now = initial_words f.words.now c.args.own.now f.header.size c.requires.own s.words_whole s.few_words.1 _ (c.over.ensures.words ∙ c.words_into.ensures) in
    ap (λ (ws : List ℕ). record { answer = Ok c.work_records-memory.result.verdict; left = tables_of ws c.work_records-memory.new.tables }) c.copy_words.ensures
    ∙ ap (words_back c.args.words.now) c.work_records-memory.ensures.audited
    ∙ ap (λ (ws : List ℕ). words_back c.args.words.now (records_audited f.header f.entries.now f.steps.now (tables_of ws c.args.tables.now))) e
