use Rattle.book_cases.proofs.Accepting.{where_article_there}
use Rattle.book_cases.proofs.posts.judge_reply.Goals as goal

pub returns : goal.returns
returns c = where_article_there c.args.postings.now.posts c.args.article c.args.text.now _ c.judge_reply.ensures
