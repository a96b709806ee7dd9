use Rattle.mb_mbap.specs.Counted.{HasRisen, ends_of, inner_of}
use Rattle.office_core.specs.Following.{Follows, MayLeave}
use Rattle.office_net.proofs.Called.{err_so}
use Rattle.office_net.proofs.Connected.{breaks, serves}
use Rattle.office_net.proofs.serving.serve_one.Goals as goal

pub returns-in_err-write_reply-clause-goes : goal.returns-in_err-write_reply-clause-goes
returns-in_err-write_reply-clause-goes g c = λ clean.
    let old = c.args.office.now in
    let new = c.reply-reply.new.office in
    err_so c.from_residual-in_err-write_reply.result _ _ c.in_err-write_reply.field-0.0 c.from_residual-in_err-write_reply.ensures.1
    (λ write. breaks (Follows old) (Follows new) (MayLeave old) (MayLeave new) (HasRisen (ends_of c.args.reader.now) (ends_of c.hear.new.reader))
    (g.R.Read.remaining (inner_of c.args.reader.now)) (g.R.Read.remaining (inner_of c.hear.new.reader)) c.in_ok-heard.heard c.reply-reply.result
    c.in_ok-heard.ensures.hears (c.reply-reply.ensures.known clean) (c.reply-reply.ensures.unknown clean))

pub returns-clause-goes : goal.returns-clause-goes
returns-clause-goes g c = λ clean.
    let old = c.args.office.now in
    let new = c.reply-reply.new.office in
    serves (Follows old) (Follows new) (MayLeave old) (MayLeave new) (HasRisen (ends_of c.args.reader.now) (ends_of c.hear.new.reader))
    (g.R.Read.remaining (inner_of c.args.reader.now)) (g.R.Read.remaining (inner_of c.hear.new.reader)) (g.W.Write.contents (inner_of c.args.writer.now)) (g.W.Write.contents (inner_of c.write_reply.new.writer))
    c.in_ok-heard.heard c.reply-reply.result c.in_ok-heard.ensures.hears (c.reply-reply.ensures.known clean) (c.reply-reply.ensures.unknown clean) c.in_ok-write_reply.ensures.written
