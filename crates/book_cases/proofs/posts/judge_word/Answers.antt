use Rattle.book_cases.proofs.Accepting.{where_name_free}
use Rattle.book_cases.proofs.posts.judge_word.Goals as goal

pub returns : goal.returns
returns c = where_name_free c.args.postings.now.posts c.args.word.now c.args.text.now _ c.judge_project.ensures
