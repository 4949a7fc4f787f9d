use Rattle.facet_words.proofs.Feeds.{feed_is}
use Rattle.facet_words.proofs.lines.feed_at.Goals as goal

pub returns : goal.returns
returns c = feed_is c.args.rest.now c.memchr.result c.memchr.ensures
