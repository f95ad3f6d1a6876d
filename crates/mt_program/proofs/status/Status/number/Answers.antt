use Rattle.std.proofs.Common.{ap, sym}
use Rattle.mt_program.specs.Statuses.{status_number}
use Rattle.mt_program.proofs.status.Status.number.Goals as goal

pub returns-in-Done : goal.returns-in-Done
returns-in-Done c = ap status_number (sym c.in-Done.is)

pub returns-in-Refused : goal.returns-in-Refused
returns-in-Refused c = ap status_number (sym c.in-Refused.is)

pub returns-in-NotWords : goal.returns-in-NotWords
returns-in-NotWords c = ap status_number (sym c.in-NotWords.is)

pub returns-in-ReadFault : goal.returns-in-ReadFault
returns-in-ReadFault c = ap status_number (sym c.in-ReadFault.is)

pub returns-in-WriteFault : goal.returns-in-WriteFault
returns-in-WriteFault c = ap status_number (sym c.in-WriteFault.is)

pub returns-in-DiskFault : goal.returns-in-DiskFault
returns-in-DiskFault c = ap status_number (sym c.in-DiskFault.is)

pub returns-in-NoMemory : goal.returns-in-NoMemory
returns-in-NoMemory c = ap status_number (sym c.in-NoMemory.is)

pub returns-in-Damaged : goal.returns-in-Damaged
returns-in-Damaged c = ap status_number (sym c.in-Damaged.is)

pub returns-in-TooLong : goal.returns-in-TooLong
returns-in-TooLong c = ap status_number (sym c.in-TooLong.is)
