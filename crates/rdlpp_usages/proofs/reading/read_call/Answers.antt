use Rattle.rdlpp_read.specs.Files.{inner_buffer}
use Rattle.rdlpp_usages.proofs.CallLoop.{means}
use Rattle.rdlpp_usages.proofs.reading.read_call.Goals as goal

pub returns-clause-means : goal.returns-clause-means
returns-clause-means g c =
    let r = c.read_tokens.ensures.reads in
    means (g.S.Sources.has_known_texts c.args.sources.now) g.S.Sources.unread c.args.store.now.most c.read_tokens.new.store.bytes r.used
    (inner_buffer c.args.files.now.include_stack) (inner_buffer c.read_tokens.new.files.include_stack) c.read_tokens.result c.requires.plain r.answer
