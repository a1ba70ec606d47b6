use Rattle.ota_core.proofs.rules.comes_in_order.Goals as goal

pub returns-in-Open : goal.returns-in-Open
returns-in-Open c = rw c.in-Open.is c.not_opened.ensures

pub returns-in-Reserve : goal.returns-in-Reserve
returns-in-Reserve c = rw c.in-Reserve.is c.may_reserve.ensures

pub returns-in-Done : goal.returns-in-Done
returns-in-Done c = rw c.in-Done.is c.may_settle.ensures

pub returns-in-Refused : goal.returns-in-Refused
returns-in-Refused c = rw c.in-Refused.is c.may_refuse.ensures

pub returns-in-Close : goal.returns-in-Close
returns-in-Close c = rw c.in-Close.is c.in_use.ensures
