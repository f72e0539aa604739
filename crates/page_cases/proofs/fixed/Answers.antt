use Rattle.std.proofs.Common.{refl, arith}
use Rattle.page_cases.proofs.fixed.Goals as goal

pub fixed_page-requires-in-text-3-clause-status : goal.fixed_page-requires-in-text-3-clause-status
fixed_page-requires-in-text-3-clause-status c = (2, omega arith, refl)

pub fixed_page-requires-in-text-4-clause-status : goal.fixed_page-requires-in-text-4-clause-status
fixed_page-requires-in-text-4-clause-status c = (3, omega arith, refl)

pub fixed_page-requires-in-text-5-clause-status : goal.fixed_page-requires-in-text-5-clause-status
fixed_page-requires-in-text-5-clause-status c = (4, omega arith, refl)

pub fixed_page-requires-in-text-6-clause-status : goal.fixed_page-requires-in-text-6-clause-status
fixed_page-requires-in-text-6-clause-status c = (5, omega arith, refl)

pub fixed_page-requires-in-text-7-clause-status : goal.fixed_page-requires-in-text-7-clause-status
fixed_page-requires-in-text-7-clause-status c = (6, omega arith, refl)
